-- Laws of the bytes that a record stores: where they are changed, and that a change in one channel leaves the contents of the others.
use Prim.Native.Nat.{ℕ, zero, suc, ◌+◌, ◌-◌, ◌/◌, ◌<◌, ◌≤◌}
use mathlib.Core.Path.{◌≡◌, refl, sym, ◌∙◌, ap, subst}
use mathlib.Core.Bool.{Bool, true, false, cond}
use mathlib.Core.List.{[], ◌∷◌, ◌++◌}
use lib.ListN.{set}
use lib.Dec.{leb, ltb, eqb}
use native.Mathlib.Omega.{arith}
use native.Mathlib.Numerals.{add-one}
use native.Mathlib.Decide.{ℕ_discrete}
use borrow.Author.Tests.{leb-true, le-leb, ltb-true, ltb-false, eqb-true}
use Rattle.word.specs.Word.{power, digit, Replaced, Slid}
use Rattle.chip.specs.declared.Chip.{Chip}
use Rattle.chip.specs.Each.{each}
use Rattle.chip.specs.Record.{places, byte_in, byte_of, count_of, contents, state_of, valid_of}
use Rattle.chip.specs.Promise.{UnusedKept}
use Rattle.chip.specs.Steps.{Stored, MovedDown, Counted}
use Rattle.chip_rules.specs.State.{Channel, R3, held, chan, put}
use Rattle.chip_rules.specs.Rules.{capacity}
use Rattle.chip.proofs.Each.{each_at, each_length, each_same, each_snoc, each_set, every_at, every_true}

-- Computed once over all channels: no capacity is above the places, and these are at most ten.
enough : (k : ℕ) → k < 8 → capacity k ≤ places k
unfolding capacity places
enough k h = leb-true (capacity k) (places k) (every_at (λ j. leb (capacity j) (places j)) 8 k refl h)

few : (k : ℕ) → k < 8 → places k ≤ 10
unfolding places
few k h = leb-true (places k) 10 (every_at (λ j. leb (places j) 10) 8 k refl h)

-- The words that the code compares counts with, byte by byte: the capacities, and the limits while V is clear. Each is computed once.
abbrev capacities : ℕ
capacities = 0x0101020201010A01

abbrev limits : ℕ
limits = 0x0101010101010A01

pub capacity_at : (k : ℕ) → k < 8 → digit capacities k ≡ capacity k
unfolding capacity digit power
capacity_at k h = eqb-true (digit capacities k) (capacity k) (every_at (λ j. eqb (digit capacities j) (capacity j)) 8 k refl h)

pub limit_at : (k : ℕ) → k < 8 → digit limits k ≡ cond (eqb (k / 2) R3) 1 (capacity k)
unfolding capacity digit power
limit_at k h =
    eqb-true (digit limits k) (cond (eqb (k / 2) R3) 1 (capacity k))
    (every_at (λ j. eqb (digit limits j) (cond (eqb (j / 2) R3) 1 (capacity j))) 8 k refl h)

-- a channel with a third place is parasite-to-host R1, and has ten
pub record Third (k : ℕ) : Type 0 where
  pub r1 : k ≡ 1
  pub ten : places k ≡ 10

third : (k i : ℕ) → suc (suc i) < places k → Third k
unfolding places
third k i h = go (eqb k 1) refl h
  where
    go : (t : Bool) → eqb k 1 ≡ t → suc (suc i) < cond t 10 2 → Third k
    go true e h = record { r1 = eqb-true k 1 e; ten = rw e }
    go false e h = absurd (omega arith)

-- the byte behind the second, counted from there
third_on : (i : ℕ) → 2 ≤ i → i ≡ suc (suc (i - 2))
third_on i h = omega arith

-- One byte stored, by its word.
module _ (chip : Chip) (c b w : ℕ) (small : c < 8) where
  abbrev with_oldest : Chip
  with_oldest = record { oldest = w; next = chip.next; later = chip.later; held = chip.held; flags = chip.flags }

  abbrev with_next : Chip
  with_next = record { oldest = chip.oldest; next = w; later = chip.later; held = chip.held; flags = chip.flags }

  abbrev with_later : Chip
  with_later = record { oldest = chip.oldest; next = chip.next; later = w; held = chip.held; flags = chip.flags }

  pub stored_oldest : Replaced chip.oldest c b w → Stored chip c 0 b with_oldest
  unfolding byte_in
  stored_oldest h = record { at = h.at small; others = others; held = refl; flags = refl }
    where
      others : (j m : ℕ) → m < places j → (j ≡ c → m ≡ 0 → ⊥) → byte_of with_oldest j m ≡ byte_of chip j m
      others j zero l f = h.others j (λ e. f e refl)
      others j (suc zero) l f = refl
      others j (suc (suc m)) l f = refl

  pub stored_next : Replaced chip.next c b w → Stored chip c 1 b with_next
  unfolding byte_in
  stored_next h = record { at = h.at small; others = others; held = refl; flags = refl }
    where
      others : (j m : ℕ) → m < places j → (j ≡ c → m ≡ 1 → ⊥) → byte_of with_next j m ≡ byte_of chip j m
      others j zero l f = refl
      others j (suc zero) l f = h.others j (λ e. f e refl)
      others j (suc (suc m)) l f = refl

  stored_third : (i : ℕ) → suc (suc i) < places c → Replaced chip.later i b w → Stored chip c (suc (suc i)) b with_later
  unfolding byte_in
  stored_third i p h = record { at = h.at (omega (arith, (third c i p).ten)); others = others; held = refl; flags = refl }
    where
      others : (j m : ℕ) → m < places j → (j ≡ c → m ≡ suc (suc i) → ⊥) → byte_of with_later j m ≡ byte_of chip j m
      others j zero l f = refl
      others j (suc zero) l f = refl
      others j (suc (suc m)) l f = h.others m (λ e. f ((third j m l).r1 ∙ sym (third c i p).r1) (ap (λ (n : ℕ). suc (suc n)) e))

  pub stored_later : (i : ℕ) → 2 ≤ i → i < places c → Replaced chip.later (i - 2) b w → Stored chip c i b with_later
  stored_later i m p h =
      let e = third_on i m in
      subst (λ (n : ℕ). Stored chip c n b with_later) (sym e) (stored_third (i - 2) (omega arith) h)

-- The oldest bytes moved down, by their number.
pub moved_none : (chip : Chip) (c : ℕ) → MovedDown chip c 0 chip
moved_none chip c = record { moved = λ i h. absurd (omega arith); others = λ j m l f. refl; held = refl; flags = refl }

behind : (i n : ℕ) → (i < n → ⊥) → n ≤ i
behind i n f = go (ltb i n) refl
  where
    go : (t : Bool) → ltb i n ≡ t → n ≤ i
    go true e = absurd (f (ltb-true i n e))
    go false e = ltb-false i n e

module _ (chip : Chip) (c w v u : ℕ) (small : c < 8) (h : Replaced chip.oldest c (digit chip.next c) w) where
  abbrev one_down : Chip
  one_down = record { oldest = w; next = chip.next; later = chip.later; held = chip.held; flags = chip.flags }

  abbrev more_down : Chip
  more_down = record { oldest = w; next = v; later = u; held = chip.held; flags = chip.flags }

  pub moved_one : MovedDown chip c 1 one_down
  unfolding byte_in
  moved_one = record { moved = moved; others = others; held = refl; flags = refl }
    where
      moved : (i : ℕ) → i < 1 → byte_of one_down c i ≡ byte_of chip c (suc i)
      moved zero l = h.at small
      moved (suc i) l = absurd (omega arith)

      others : (j m : ℕ) → m < places j → (j ≡ c → m < 1 → ⊥) → byte_of one_down j m ≡ byte_of chip j m
      others j zero l f = h.others j (λ e. f e (omega arith))
      others j (suc zero) l f = refl
      others j (suc (suc m)) l f = refl

  moved_third : (n : ℕ) → suc (suc n) < places c → Replaced chip.next c (digit chip.later 0) v → Slid chip.later n u
      → MovedDown chip c (suc (suc n)) more_down
  unfolding byte_in
  moved_third n p a s = record { moved = moved; others = others; held = refl; flags = refl }
    where
      moved : (i : ℕ) → i < suc (suc n) → byte_of more_down c i ≡ byte_of chip c (suc i)
      moved zero l = h.at small
      moved (suc zero) l = a.at small
      moved (suc (suc i)) l = s.moved i (omega arith)

      others : (j m : ℕ) → m < places j → (j ≡ c → m < suc (suc n) → ⊥) → byte_of more_down j m ≡ byte_of chip j m
      others j zero l f = h.others j (λ e. f e (omega arith))
      others j (suc zero) l f = a.others j (λ e. f e (omega arith))
      others j (suc (suc m)) l f = s.others m (behind m n (λ q. f ((third j m l).r1 ∙ sym (third c n p).r1) (omega arith)))

  pub moved_more : (n : ℕ) → 2 ≤ n → n < places c → Replaced chip.next c (digit chip.later 0) v → Slid chip.later (n - 2) u
      → MovedDown chip c n more_down
  moved_more n m p a s =
      let e = third_on n m in
      subst (λ (i : ℕ). MovedDown chip c i more_down) (sym e) (moved_third (n - 2) (omega arith) a s)

-- a valid record holds no more than a channel's capacity
fits : (chip : Chip) (k : ℕ) → k < 8 → valid_of chip ≡ true → count_of chip k ≤ capacity k
unfolding valid_of
fits chip k h ok = leb-true (count_of chip k) (capacity k) (every_at (λ j. leb (count_of chip j) (capacity j)) 8 k ok h)

module _ (chip : Chip) (k : ℕ) (small : k < 8) where
  pub chan_at : chan (state_of chip) k ≡ contents chip k
  chan_at = each_at (contents chip) 8 k [] small

  -- the number held is the list's length
  pub held_is : held (chan (state_of chip) k) ≡ count_of chip k
  held_is = rw chan_at (each_length (byte_of chip k) (count_of chip k))

-- What a valid record has of channel k, for the arithmetic of its places.
pub record Within (chip : Chip) (k : ℕ) : Type 0 where
  pub count : held (chan (state_of chip) k) ≡ count_of chip k
  pub most : count_of chip k ≤ capacity k
  pub enough : capacity k ≤ places k
  pub few : places k ≤ 10

pub within : (chip : Chip) (k : ℕ) → k < 8 → valid_of chip ≡ true → Within chip k
within chip k small ok = record { count = held_is chip k small; most = fits chip k small ok; enough = enough k small; few = few k small }

-- r holds n bytes in channel k, and but for these all is as it was.
module _ (chip r : Chip) (k n : ℕ) (small : k < 8) (ok : valid_of chip ≡ true) (most : n ≤ capacity k)
    (counts : Replaced chip.held k n r.held) (flags : r.flags ≡ chip.flags)
    (same : (j i : ℕ) → i < places j → (j ≡ k → i < n → ⊥) → byte_of r j i ≡ byte_of chip j i) where
  now_held : count_of r k ≡ n
  now_held = counts.at small

  -- the other channels hold what they held
  others : (j : ℕ) → j < 8 → (j ≡ k → ⊥) → contents r j ≡ contents chip j
  others j h d =
      rw (counts.others j d)
      (each_same (byte_of chip j) (byte_of r j) (count_of chip j)
      (λ i l. same j i (let w = within chip j h ok in omega (arith, w.most, w.enough)) (λ e m. d e)))

  changed_state : state_of r ≡ put (state_of chip) k (each (byte_of r k) n)
  changed_state =
      let e : each (contents r) 8 ≡ set (each (contents chip) 8) k (contents r k) = each_set (contents chip) (contents r) 8 k small others in
      let c : contents r k ≡ each (byte_of r k) n = ap (each (byte_of r k)) now_held in
      rw (e, c, flags)

  changed_valid : valid_of r ≡ true
  unfolding valid_of
  changed_valid = every_true (λ j. leb (count_of r j) (capacity j)) 8 (λ j h. at j h (ℕ_discrete j k))
    where
      at : (j : ℕ) → j < 8 → Dec (j ≡ k) → leb (count_of r j) (capacity j) ≡ true
      at j h (yes e) = rw (e, now_held) (le-leb n (capacity k) most)
      at j h (no d) = rw (counts.others j d) (le-leb (count_of chip j) (capacity j) (fits chip j h ok))

  -- what is not held now was not changed
  changed_free : UnusedKept chip r
  changed_free =
      record {
        bytes = λ c i h l m. same c i l (λ e b. let q : count_of r c ≡ n = ap (count_of r) e ∙ now_held in omega arith);
        bits = ap (λ (f : ℕ). f / 64) flags;
      }

-- What a data write and a data read leave: a valid record, of the state that the rules say.
pub record Left (chip r : Chip) (k : ℕ) (l : Channel) : Type 0 where
  pub state : state_of r ≡ put (state_of chip) k l
  pub valid : valid_of r ≡ true
  pub free : UnusedKept chip r

module _ (chip s r : Chip) (k : ℕ) (small : k < 8) (ok : valid_of chip ≡ true) where
  n : ℕ
  n = count_of chip k

  -- a byte stored behind those held
  pub put_done : (b : ℕ) → held (chan (state_of chip) k) < capacity k → Stored chip k (count_of chip k) b s → Counted s k (count_of chip k + 1) r
      → Left chip r k (chan (state_of chip) k ++ (b ∷ []))
  unfolding n
  put_done b room t u =
      let w = within chip k small ok in
      let more : n + 1 ≤ capacity k = omega (arith, w.count) in
      let counts : Replaced chip.held k (n + 1) r.held = rw t.held at u.held in
      let here : (j i : ℕ) → byte_of r j i ≡ byte_of s j i = λ j i. ap (λ (f : ℕ → ℕ → ℕ). f j i) u.bytes in
      let same : (j i : ℕ) → i < places j → (j ≡ k → i < n + 1 → ⊥) → byte_of r j i ≡ byte_of chip j i =
      λ j i l f. here j i ∙ t.others j i l (λ e q. f e (omega arith)) in
      let older : each (byte_of r k) n ≡ each (byte_of chip k) n =
      each_same (byte_of chip k) (byte_of r k) n (λ i l. here k i ∙ t.others k i (omega (arith, w.most, w.enough)) (λ e q. omega arith)) in
      let newest : byte_of r k n ≡ b = here k n ∙ t.at in
      let all : each (byte_of r k) (n + 1) ≡ chan (state_of chip) k ++ (b ∷ []) =
      rw (chan_at chip k small, add-one n) (each_snoc (byte_of r k) n ∙ rw (older, newest)) in
      let flags = u.flags ∙ t.flags in
      record {
        state = changed_state chip r k (n + 1) small ok more counts flags same ∙ rw all;
        valid = changed_valid chip r k (n + 1) small ok more counts flags same;
        free = changed_free chip r k (n + 1) small ok more counts flags same;
      }

  -- the oldest byte taken, and the others moved down
  pub take_done : {m : ℕ} → count_of chip k ≡ m + 1 → MovedDown chip k m s → Counted s k m r
      → (chan (state_of chip) k ≡ digit chip.oldest k ∷ each (byte_of r k) m) × Left chip r k (each (byte_of r k) m)
  unfolding n byte_in
  take_done {m} some t u =
      let w = within chip k small ok in
      let fewer : m ≤ capacity k = omega (arith, w.most) in
      let counts : Replaced chip.held k m r.held = rw t.held at u.held in
      let here : (j i : ℕ) → byte_of r j i ≡ byte_of s j i = λ j i. ap (λ (f : ℕ → ℕ → ℕ). f j i) u.bytes in
      let same : (j i : ℕ) → i < places j → (j ≡ k → i < m → ⊥) → byte_of r j i ≡ byte_of chip j i = λ j i l f. here j i ∙ t.others j i l f in
      let rest : each (byte_of r k) m ≡ each (λ i. byte_of chip k (suc i)) m =
      each_same (λ i. byte_of chip k (suc i)) (byte_of r k) m (λ i l. here k i ∙ t.moved i l) in
      let flags = u.flags ∙ t.flags in (
        chan_at chip k small ∙ ap (each (byte_of chip k)) (some ∙ add-one m) ∙ rw rest,
        record {
          state = changed_state chip r k m small ok fewer counts flags same;
          valid = changed_valid chip r k m small ok fewer counts flags same;
          free = changed_free chip r k m small ok fewer counts flags same;
        },
      )
