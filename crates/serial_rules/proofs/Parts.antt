-- The signs of a stream of parts: need-more inside each part, and at its last input what the part is.
use Prim.Native.Nat.{ℕ, suc}
use mathlib.Core.Path.{◌≡◌, refl, sym, ap, ◌∙◌}
use mathlib.Core.Bool.{Bool, true, false, cond, not, ◌&&◌}
use mathlib.Core.List.{List, [], ◌∷◌, ◌++◌, map, append_assoc, append-nil}
use native.Mathlib.Omega.{arith}
use lib.Dec.{eqb, leb, ltb}
use lib.ListN.{length, length-append}
use borrow.Author.Tests.{ne_eqb, eqb-true, leb-true, not-true}
use Rattle.serial_rules.specs.Escape.{escape, escaped}
use Rattle.serial_rules.specs.Body.{more, done}
use Rattle.serial_rules.specs.Marks.{bit, inward_class, error_mark, escape_mark, event_mark, block_mark, end_mark}
use Rattle.serial_rules.specs.Reply.{text, shape_turn}
use Rattle.serial_rules.specs.Link as report
use Rattle.serial_rules.specs.Link.{Transfer, load, save, Target, setting, executing, opening, Action, failing, signal, place, control, own_shape, Meaning, unknown, end, starts, meaning_of, Doing, none, own, layer, Token, underway, acted, failed, Seen, seen, failure_of, failure, finish, opened, own_byte, innermost, data_seen, closes, opens, may_start, mark_outside, look}
use Rattle.serial_rules.specs.Session.{Input, raw, Sign, token, signs, layer_after, Part, byte, begun, state, event, address, block, ending, error, has_zero, open_after, target_mark, some_open, good, inputs_of, sign_of, fill, behind, inside}
use Rattle.serial_rules.proofs.Trip.{and_both}
use Rattle.serial_rules.proofs.Meanings.{error_means, state_means, event_means, block_means, end_means, target_means}
use Rattle.serial_rules.proofs.Ends.{Ends, last, next, positive, fixed_ends, text_ends}

-- the raw bytes of data bytes: the first is the first data byte itself
escaped_head : (b : ℕ) (s : List ℕ) → escaped (b ∷ s) ≡ b ∷ cond (eqb b escape) (escape ∷ escaped s) (escaped s)
unfolding escaped
escaped_head b s = go (eqb b escape) refl
  where
    go : (t : Bool) → eqb b escape ≡ t → cond t (escape ∷ escape ∷ []) (b ∷ []) ++ escaped s ≡ b ∷ cond t (escape ∷ escaped s) (escaped s)
    go true e = ap (λ (x : ℕ). x ∷ escape ∷ escaped s) (sym (eqb-true b escape e))
    go false e = refl

look_plain : (o : List Transfer) (d : Doing) (b : ℕ) → eqb b escape ≡ false → look (layer false d o) b ≡ data_seen o d b
unfolding look
look_plain o d b e = simp e

abbrev signed : Seen → List Input → List Sign
signed o t = token o.token ∷ signs o.next t

-- one data byte, whatever follows
abbrev pub second : ℕ → List Input
second b = cond (eqb b escape) (raw escape ∷ []) []

pub data_signs : (o : List Transfer) (d : Doing) (b : ℕ) (s : List ℕ) (t : List Input)
    → signs (layer false d o) (map raw (escaped (b ∷ s)) ++ t) ≡ fill (token underway) (second b) ++ signed (data_seen o d b) (map raw (escaped s) ++ t)
unfolding signs look
data_signs o d b s t = rw (escaped_head b s) (go (eqb b escape) refl)
  where
    go : (k : Bool) → eqb b escape ≡ k
        → signs (layer false d o) (map raw (b ∷ cond k (escape ∷ escaped s) (escaped s)) ++ t)
        ≡ fill (token underway) (cond k (raw escape ∷ []) []) ++ signed (data_seen o d b) (map raw (escaped s) ++ t)
    go true e = rw (eqb-true b escape e) refl
    go false e = ap (λ (o : Seen). signed o (map raw (escaped s) ++ t)) (look_plain o d b e)

data_after : (o : List Transfer) (d : Doing) (b : ℕ) (s : List ℕ) (t : List Input)
    → layer_after (layer false d o) (map raw (escaped (b ∷ s)) ++ t) ≡ layer_after (data_seen o d b).next (map raw (escaped s) ++ t)
unfolding layer_after look
data_after o d b s t = rw (escaped_head b s) (go (eqb b escape) refl)
  where
    go : (k : Bool) → eqb b escape ≡ k
        → layer_after (layer false d o) (map raw (b ∷ cond k (escape ∷ escaped s) (escaped s)) ++ t) ≡ layer_after (data_seen o d b).next (map raw (escaped s) ++ t)
    go true e = rw (eqb-true b escape e) refl
    go false e = ap (λ (o : Seen). layer_after o.next (map raw (escaped s) ++ t)) (look_plain o d b e)

-- the inputs of data bytes behind the first
pub behind_data : (b : ℕ) (s : List ℕ) → behind (map raw (escaped (b ∷ s))) ≡ second b ++ map raw (escaped s)
behind_data b s = rw (escaped_head b s) (go (eqb b escape))
  where
    go : (k : Bool) → map raw (cond k (escape ∷ escaped s) (escaped s)) ≡ cond k (raw escape ∷ []) [] ++ map raw (escaped s)
    go true = refl
    go false = refl

pub fill_append : {A : Type 0} (q : A) (s t : List Input) → fill q (s ++ t) ≡ fill q s ++ fill q t
fill_append q [] t = refl
fill_append {A = A} q (i ∷ s) t = ap (λ (l : List A). q ∷ l) (fill_append q s t)

pub fill_data : {A : Type 0} (q : A) (b : ℕ) (s : List ℕ) → fill q (map raw (escaped (b ∷ s))) ≡ q ∷ fill q (behind (map raw (escaped (b ∷ s))))
fill_data q b s = rw (escaped_head b s) refl

-- the own bytes of an action, after h of them
abbrev end_of : Action → List ℕ → List ℕ → Token
end_of a h [] = underway
end_of a h (b ∷ []) = finish a h b
end_of a h (b ∷ c ∷ s) = end_of a (h ++ (b ∷ [])) (c ∷ s)

pub length_snoc : (h : List ℕ) (b : ℕ) → length (h ++ (b ∷ [])) ≡ suc (length h)
length_snoc h b = omega (arith, length-append h (b ∷ []))

abbrev Signed : List Transfer → Action → List ℕ → List ℕ → List Input → Type 0
Signed o a h s t =
    signs (layer false (own a h) o) (map raw (escaped s) ++ t)
    ≡ fill (token underway) (behind (map raw (escaped s))) ++ (token (end_of a h s) ∷ signs (inside (opened a o)) t)

-- a byte that needs more, before others
more_signs : (o : List Transfer) (a : Action) (h : List ℕ) (b c : ℕ) (s : List ℕ) (t : List Input) → data_seen o (own a h) b ≡ own_byte o a h b more
    → Signed o a (h ++ (b ∷ [])) (c ∷ s) t → Signed o a h (b ∷ c ∷ s) t
more_signs o a h b c s t q w =
    let f = fill (token underway) (second b) in
    let g = behind (map raw (escaped (c ∷ s))) in
    let k = token (end_of a (h ++ (b ∷ [])) (c ∷ s)) ∷ signs (inside (opened a o)) t in
    data_signs o (own a h) b (c ∷ s) t
    ∙ ap (λ (o : Seen). f ++ signed o (map raw (escaped (c ∷ s)) ++ t)) q
    ∙ ap (λ (l : List Sign). f ++ (token underway ∷ l)) w
    ∙ ap (λ (l : List Sign). f ++ (l ++ k)) (sym (fill_data (token underway) c s))
    ∙ sym (append_assoc f (fill (token underway) (map raw (escaped (c ∷ s)))) k)
    ∙ ap (λ (l : List Sign). l ++ k) (sym (fill_append (token underway) (second b) (map raw (escaped (c ∷ s)))))
    ∙ ap (λ (l : List Input). fill (token underway) l ++ k) (sym (behind_data b (c ∷ s)))

own_signs : (o : List Transfer) (a : Action) (h : List ℕ) {n : ℕ} {s : List ℕ} (t : List Input) → n ≡ length h → Ends (own_shape a) n s → Signed o a h s t
unfolding escaped
own_signs o a h t e (last n b d) =
    let q : data_seen o (own a h) b ≡ own_byte o a h b done = ap (own_byte o a h b) (ap (λ (k : ℕ). shape_turn (own_shape a) k b) (sym e) ∙ d) in
    data_signs o (own a h) b [] t
    ∙ ap (λ (o : Seen). fill (token underway) (second b) ++ signed o t) q
    ∙ ap (λ (l : List Input). fill (token underway) l ++ (token (finish a h b) ∷ signs (inside (opened a o)) t)) (sym (behind_data b [] ∙ append-nil (second b)))
own_signs o a h t e (next n b [] m w) = elim w [ ]
own_signs o a h t e (next n b (c ∷ s) m w) =
    let q : data_seen o (own a h) b ≡ own_byte o a h b more = ap (own_byte o a h b) (ap (λ (k : ℕ). shape_turn (own_shape a) k b) (sym e) ∙ m) in
    more_signs o a h b c s t q (own_signs o a (h ++ (b ∷ [])) t (ap suc e ∙ sym (length_snoc h b)) w)

own_after_lem : (o : List Transfer) (a : Action) (h : List ℕ) {n : ℕ} {s : List ℕ} (t : List Input) → n ≡ length h → Ends (own_shape a) n s
    → layer_after (layer false (own a h) o) (map raw (escaped s) ++ t) ≡ layer_after (inside (opened a o)) t
unfolding escaped
own_after_lem o a h t e (last n b d) =
    let q : data_seen o (own a h) b ≡ own_byte o a h b done = ap (own_byte o a h b) (ap (λ (k : ℕ). shape_turn (own_shape a) k b) (sym e) ∙ d) in
    data_after o (own a h) b [] t ∙ ap (λ (o : Seen). layer_after o.next t) q
own_after_lem o a h t e (next n b s m w) =
    let q : data_seen o (own a h) b ≡ own_byte o a h b more = ap (own_byte o a h b) (ap (λ (k : ℕ). shape_turn (own_shape a) k b) (sym e) ∙ m) in
    data_after o (own a h) b s t
    ∙ ap (λ (o : Seen). layer_after o.next (map raw (escaped s) ++ t)) q
    ∙ own_after_lem o a (h ++ (b ∷ [])) t (ap suc e ∙ sym (length_snoc h b)) w

-- a mark that is carried, behind its escape
not_escape : (m : ℕ) {w : Meaning} → meaning_of m ≡ w → (w ≡ unknown → ⊥) → eqb m escape ≡ false
unfolding inward_class meaning_of
not_escape m h z = ne_eqb m escape (λ e. z (sym h ∙ rw e refl))

look_mark : (o : List Transfer) (m : ℕ) → eqb m escape ≡ false → look (layer true none o) m ≡ mark_outside o (meaning_of m)
unfolding look
look_mark o m e = simp e

module _ (o : List Transfer) (m : ℕ) {w : Meaning} (h : meaning_of m ≡ w) (z : w ≡ unknown → ⊥) (t : List Input) where
  mark_looks : look (layer true none o) m ≡ mark_outside o w
  mark_looks = look_mark o m (not_escape m h z) ∙ ap (mark_outside o) h

  mark_signs : signs (inside o) (raw escape ∷ raw m ∷ t) ≡ token underway ∷ signed (mark_outside o w) t
  unfolding signs look
  mark_signs = ap (λ (p : Seen). token underway ∷ signed p t) mark_looks

  mark_after : layer_after (inside o) (raw escape ∷ raw m ∷ t) ≡ layer_after (mark_outside o w).next t
  unfolding layer_after look
  mark_after = ap (λ (p : Seen). layer_after p.next t) mark_looks

not_end : end ≡ unknown → ⊥
not_end e = let z : ◌≡◌ {A = ℕ} 0 1 = cc in omega arith

not_state : (on : Bool) → Meaning.state on ≡ unknown → ⊥
not_state on e = let z : ◌≡◌ {A = ℕ} 0 1 = cc in omega arith

-- an action with its mark and all its own bytes
module _ (o : List Transfer) (a : Action) (m b : ℕ) (s : List ℕ) (t : List Input) (h : meaning_of m ≡ starts a) (may : may_start a o ≡ true) (w : Ends (own_shape a) 0 (b ∷ s)) where
  carried : starts a ≡ unknown → ⊥
  carried e = let z : ◌≡◌ {A = ℕ} 0 1 = cc in omega arith

  opens_it : mark_outside o (starts a) ≡ opens o a
  opens_it = rw may refl

  action_signs : signs (inside o) (raw escape ∷ raw m ∷ (map raw (escaped (b ∷ s)) ++ t))
      ≡ fill (token underway) (raw m ∷ map raw (escaped (b ∷ s))) ++ (token (end_of a [] (b ∷ s)) ∷ signs (inside (opened a o)) t)
  action_signs =
      let i = map raw (escaped (b ∷ s)) ++ t in
      let k = token (end_of a [] (b ∷ s)) ∷ signs (inside (opened a o)) t in
      mark_signs o m h carried i
      ∙ ap (λ (p : Seen). token underway ∷ signed p i) opens_it
      ∙ ap (λ (l : List Sign). token underway ∷ token underway ∷ l) (own_signs o a [] t refl w)
      ∙ ap (λ (l : List Sign). token underway ∷ (l ++ k)) (sym (fill_data (token underway) b s))

  action_after : layer_after (inside o) (raw escape ∷ raw m ∷ (map raw (escaped (b ∷ s)) ++ t)) ≡ layer_after (inside (opened a o)) t
  action_after =
      let i = map raw (escaped (b ∷ s)) ++ t in
      mark_after o m h carried i ∙ ap (λ (p : Seen). layer_after p.next i) opens_it ∙ own_after_lem o a [] t refl w

-- where an error's bytes end
failing_ends : (h t : List ℕ) → end_of failing h (t ++ (0 ∷ [])) ≡ failed (failure_of (h ++ t))
failing_ends h [] = ap (λ (l : List ℕ). failed (failure_of l)) (sym (append-nil h))
failing_ends h (x ∷ []) = refl
failing_ends h (x ∷ y ∷ t) = failing_ends (h ++ (x ∷ [])) (y ∷ t) ∙ ap (λ (l : List ℕ). failed (failure_of l)) (append_assoc h (x ∷ []) (y ∷ t))

failing_whole : (n : ℕ) (t : List ℕ) → end_of failing [] (n ∷ (t ++ (0 ∷ []))) ≡ failed (failure n t)
failing_whole n [] = refl
failing_whole n (x ∷ t) = failing_ends (n ∷ []) (x ∷ t)

text_first : (n : ℕ) → shape_turn text 0 n ≡ more
unfolding shape_turn
text_first n = refl

error_ends : (n : ℕ) (t : List ℕ) → leb (length t) 255 && not (has_zero t) ≡ true → Ends text 0 (n ∷ (t ++ (0 ∷ [])))
error_ends n t g =
    let d = and_both (leb (length t) 255) (not (has_zero t)) g in
    next 0 n (t ++ (0 ∷ [])) (text_first n) (text_ends 0 t (not-true (has_zero t) d.1) (omega (arith, leb-true (length t) 255 d.0)))

-- the marks of an error and of a control block
class_0 : inward_class 0 ≡ error_mark
unfolding inward_class
class_0 = refl

block_class : (n : ℕ) → ltb (suc n) 0x80 ≡ true → inward_class (suc n) ≡ block_mark
unfolding inward_class
block_class n h = simp (positive n, h)

-- an end where some are open
end_closes : (o : List Transfer) → some_open o ≡ true → closes o ≡ seen (closes o).token (inside (closes o).next.stack)
end_closes [] g = let z : ◌≡◌ {A = ℕ} 0 1 = cc in absurd (omega arith)
end_closes (t ∷ o) g = refl

-- a control block, whole
control_ends : (n : ℕ) (h : List ℕ) (b : ℕ) (s : List ℕ) → end_of (control n) h (b ∷ s) ≡ acted (report.block (h ++ (b ∷ s)))
control_ends n h b [] = refl
control_ends n h b (c ∷ s) = control_ends n (h ++ (b ∷ [])) c s ∙ ap (λ (l : List ℕ). acted (report.block l)) (append_assoc h (b ∷ []) (c ∷ s))

-- the class of a part's mark, and that it may stand where it does
mark_class : (m c : ℕ) (k : Bool) → (eqb (inward_class m) c && k) ≡ true → (inward_class m ≡ c) × (k ≡ true)
mark_class m c k g = let b = and_both (eqb (inward_class m) c) k g in (eqb-true (inward_class m) c b.0, b.1)

pub part_signs : (o : List Transfer) (p : Part) (t : List Input) → good o p ≡ true
    → signs (inside o) (inputs_of p ++ t) ≡ fill (token underway) (behind (inputs_of p)) ++ (sign_of o p ∷ signs (inside (open_after o p)) t)
unfolding signs escaped
part_signs o (byte b) t g =
    data_signs o none b [] t
    ∙ ap (λ (l : List Input). fill (token underway) l ++ (token (innermost o b) ∷ signs (inside o) t)) (sym (behind_data b [] ∙ append-nil (second b)))
part_signs o (begun k) t g = refl
part_signs o (state m) t g = mark_signs o m (state_means m (eqb-true (inward_class m) escape_mark g)) (not_state (bit m 1)) t
part_signs o (event m y x a) t g =
    action_signs o signal m y (x ∷ a ∷ []) t (event_means m (eqb-true (inward_class m) event_mark g)) refl (fixed_ends 3 0 y (x ∷ a ∷ []) refl)
part_signs o (address u m b3 b2 b1 b0) t g =
    let k = mark_class m (target_mark u) (may_start (place u) o) g in
    action_signs o (place u) m b3 (b2 ∷ b1 ∷ b0 ∷ []) t (target_means m u k.0) k.1 (fixed_ends 4 0 b3 (b2 ∷ b1 ∷ b0 ∷ []) refl)
part_signs o (block b s) t g =
    action_signs o (control (suc (length s))) (suc (length s)) b s t (block_means (suc (length s)) (block_class (length s) g)) refl (fixed_ends (suc (length s)) 0 b s (omega arith))
    ∙ ap (λ (k : Token). fill (token underway) (raw (suc (length s)) ∷ map raw (escaped (b ∷ s))) ++ (token k ∷ signs (inside o) t)) (control_ends (suc (length s)) [] b s)
part_signs o (ending m) t g =
    let k = mark_class m end_mark (some_open o) g in
    mark_signs o m (end_means m k.0) not_end t ∙ ap (λ (p : Seen). token underway ∷ signed p t) (end_closes o k.1)
part_signs o (error n s) t g =
    action_signs o failing 0 n (s ++ (0 ∷ [])) t (error_means 0 class_0) refl (error_ends n s g)
    ∙ ap (λ (k : Token). fill (token underway) (raw 0 ∷ map raw (escaped (n ∷ (s ++ (0 ∷ []))))) ++ (token k ∷ signs (inside []) t)) (failing_whole n s)

pub part_after : (o : List Transfer) (p : Part) (t : List Input) → good o p ≡ true → layer_after (inside o) (inputs_of p ++ t) ≡ layer_after (inside (open_after o p)) t
unfolding layer_after escaped
part_after o (byte b) t g = data_after o none b [] t
part_after o (begun k) t g = refl
part_after o (state m) t g = mark_after o m (state_means m (eqb-true (inward_class m) escape_mark g)) (not_state (bit m 1)) t
part_after o (event m y x a) t g =
    action_after o signal m y (x ∷ a ∷ []) t (event_means m (eqb-true (inward_class m) event_mark g)) refl (fixed_ends 3 0 y (x ∷ a ∷ []) refl)
part_after o (address u m b3 b2 b1 b0) t g =
    let k = mark_class m (target_mark u) (may_start (place u) o) g in
    action_after o (place u) m b3 (b2 ∷ b1 ∷ b0 ∷ []) t (target_means m u k.0) k.1 (fixed_ends 4 0 b3 (b2 ∷ b1 ∷ b0 ∷ []) refl)
part_after o (block b s) t g =
    action_after o (control (suc (length s))) (suc (length s)) b s t (block_means (suc (length s)) (block_class (length s) g)) refl (fixed_ends (suc (length s)) 0 b s (omega arith))
part_after o (ending m) t g =
    let k = mark_class m end_mark (some_open o) g in
    mark_after o m (end_means m k.0) not_end t ∙ ap (λ (p : Seen). layer_after p.next t) (end_closes o k.1)
part_after o (error n s) t g = action_after o failing 0 n (s ++ (0 ∷ [])) t (error_means 0 class_0) refl (error_ends n s g)
