-- Replies on the parallel side, where each byte is one of the reply: written then read and read then written, for every kind of call.
use Prim.Native.Nat.{ℕ, zero, suc, ◌-◌, ◌≤◌, ◌<◌}
use mathlib.Core.Path.{◌≡◌, refl, sym, ap, ap₂, subst, ◌∙◌}
use mathlib.Core.Bool.{Bool, true, false, cond}
use mathlib.Core.List.{List, [], ◌∷◌, ◌++◌}
use native.Mathlib.Omega.{arith}
use lib.Dec.{ltb}
use lib.ListN.{length, replicate}
use borrow.Author.Tests.{lt-ltb, ltb-true}
use Rattle.serial_rules.specs.Body.{Turn, more, done, refused}
use Rattle.serial_rules.specs.Reply.{Kind, shape_of, shape_turn, longest, reply_turn, reply_turns, Reply, reply_bytes, reply_ok, given, reply_read}
use Rattle.serial_rules.proofs.Ends.{Ends, last, next}
use Rattle.serial_rules.proofs.Parts.{length_snoc}
use Rattle.serial_rules.proofs.Shapes.{more_fits}
use Rattle.serial_rules.proofs.Replies.{reply_whole, reply_none, reply_back}
use Rattle.serial_rules.proofs.Normal.{positive_of, ReplyRewritten, read_then_written}

-- every byte but the last needs more
abbrev pub last_done : ℕ → List Turn
last_done waits = replicate waits more ++ (done ∷ [])

-- a byte that belongs to the reply goes by the reply's shape
turn_within : (k : Kind) (s : List ℕ) (b : ℕ) → length s < longest (shape_of k) → reply_turn k s b ≡ shape_turn (shape_of k) (length s) b
unfolding reply_turn
turn_within k s b h = simp (lt-ltb (length s) (longest (shape_of k)) h)

-- and one that is not refused belongs to it
pub turn_below : (k : Kind) (s : List ℕ) (b : ℕ) {t : Turn} → reply_turn k s b ≡ t → (refused 7 ≡ t → ⊥) → length s < longest (shape_of k)
unfolding reply_turn
turn_below k s b {t} e h = go (ltb (length s) (longest (shape_of k))) refl e
  where
    go : (u : Bool) → ltb (length s) (longest (shape_of k)) ≡ u → cond u (shape_turn (shape_of k) (length s) b) (refused 7) ≡ t → length s < longest (shape_of k)
    go true p q = ltb-true (length s) (longest (shape_of k)) p
    go false p q = absurd (h q)

one_less : (n : ℕ) → suc (suc n - 1) ≡ suc (suc n) - 1
one_less n = omega arith

-- bytes that end at their last are read to it
ends_turns : (k : Kind) (got : List ℕ) {n : ℕ} {s : List ℕ} → n ≡ length got → n < longest (shape_of k) → Ends (shape_of k) n s → reply_turns k got s ≡ last_done (length s - 1)
unfolding reply_turns
ends_turns k got e h (last n b d) = ap (λ (t : Turn). t ∷ []) (turn_within k got b (omega (arith, e)) ∙ ap (λ (i : ℕ). shape_turn (shape_of k) i b) (sym e) ∙ d)
ends_turns k got e h (next n b [] d w) = elim w [ ]
ends_turns k got e h (next n b (c ∷ s) d w) =
    ap₂ (λ (t : Turn) (l : List Turn). t ∷ l) (turn_within k got b (omega (arith, e)) ∙ ap (λ (i : ℕ). shape_turn (shape_of k) i b) (sym e) ∙ d)
    (ends_turns k (got ++ (b ∷ [])) (ap suc e ∙ sym (length_snoc got b)) (omega (arith, more_fits (shape_of k) n b d)) w)
    ∙ ap last_done (one_less (length s))

-- and bytes read to their last end there
turns_ends : (k : Kind) (got s : List ℕ) (waits : ℕ) → reply_turns k got s ≡ last_done waits → (length got < longest (shape_of k)) × Ends (shape_of k) (length got) s
unfolding reply_turns
turns_ends k got [] zero e = let z : ◌≡◌ {A = ℕ} 0 1 = cc in absurd (omega arith)
turns_ends k got [] (suc waits) e = let z : ◌≡◌ {A = ℕ} 0 1 = cc in absurd (omega arith)
turns_ends k got (b ∷ []) zero e =
    let t : reply_turn k got b ≡ done = cc in
    let h = turn_below k got b t (λ q. let z : ◌≡◌ {A = ℕ} 0 1 = cc in omega arith) in
    (h, last (length got) b (sym (turn_within k got b h) ∙ t))
turns_ends k got (b ∷ c ∷ s) zero e = let z : ◌≡◌ {A = ℕ} 0 1 = cc in absurd (omega arith)
turns_ends k got (b ∷ s) (suc waits) e =
    let t : reply_turn k got b ≡ more = cc in
    let u : reply_turns k (got ++ (b ∷ [])) s ≡ last_done waits = cc in
    let h = turn_below k got b t (λ q. let z : ◌≡◌ {A = ℕ} 0 1 = cc in omega arith) in
    let w = turns_ends k (got ++ (b ∷ [])) s waits u in
    (h, next (length got) b s (sym (turn_within k got b h) ∙ t) (subst (λ (n : ℕ). Ends (shape_of k) n s) (length_snoc got b) w.1))

-- Writing then reading gives the reply, finished at its last byte; one without a byte has none to read.
pub record ParallelReadBack (k : Kind) (r : Reply) (b t : List ℕ) : Type 0 where
  pub none : longest (shape_of k) ≡ 0 → reply_bytes r b t ≡ []
  pub turns : (longest (shape_of k) ≡ 0 → ⊥) → reply_turns k [] (reply_bytes r b t) ≡ last_done (length (reply_bytes r b t) - 1)
  pub meaning : reply_read k (reply_bytes r b t) ≡ given r b t

pub parallel_read_back : (k : Kind) (r : Reply) (b t : List ℕ) → reply_ok k r b t ≡ true → length t ≤ 255 → ParallelReadBack k r b t
parallel_read_back k r b t h m =
    record {
      none = reply_none k r b t h;
      turns = λ z. ends_turns k [] refl (positive_of (longest (shape_of k)) z) (reply_whole k r b t h m z);
      meaning = reply_back k r b t h;
    }

-- Reading then writing: a reply whose every byte but the last needed more fits its kind, and its normal bytes are written.
pub parallel_rewritten : (k : Kind) (s : List ℕ) (waits : ℕ) → reply_turns k [] s ≡ last_done waits → ReplyRewritten k s
parallel_rewritten k s waits e = let w = turns_ends k [] s waits e in read_then_written k s w.1 (λ z. omega (arith, z, w.0))
