-- The conversions between a link and its flat record, there and back.
use Rattle.link.specs.declared.Wait.{Wait}
use Rattle.link.specs.declared.Wait.TheVariants.{Idle, Waiting}
use Rattle.std.specs.Prelude.{Option, Some, None}
use Prim.Native.Nat.{ℕ, zero, suc, ◌+◌, ◌*◌, ◌-◌, ◌≤◌, ◌<◌, ◌/◌, ◌%◌}
use native.Mathlib.Omega.{arith}
use mathlib.Core.Path.{◌≡◌, refl, sym, ap, subst, ◌∙◌}
use mathlib.Core.Bool.{Bool, true, false, cond, ◌&&◌, ◌||◌}
use borrow.Author.Tests.{leb-true, le-leb, lt-leb, eq-eqb, ne_eqb, eqb-true, eqb-false}
use lib.Dec.{eqb, leb}
use Rattle.serial_rules.proofs.Trip.{and_both}
use Rattle.actions.specs.declared.Target.TheVariants.{Set, Execute, Load, Save}
use Rattle.actions.specs.declared.Action.TheVariants.{Error, Event, Address, Block}
use Rattle.actions.specs.declared.Action.{Action}
use Rattle.link.specs.declared.Link.{Link}
use Rattle.link_record.specs.declared.FlatLink.{FlatLink}
use Rattle.flat_kind.specs.Kinds.{kind_number}
use Rattle.flat_kind.proofs.Numbers.{Each, each, kind_back_lem, kind_tag, kind_same}
use Rattle.link_record.specs.Records.{wait_at, doing_at, seen_at, stopped_at, nested_at, link_of, tags_ok, known_link, wait_number, wait_out, doing_number, flags_number, flat_of}

not_zero : (n : ℕ) → eqb (suc n) 0 ≡ false
not_zero n = ne_eqb (suc n) 0 (λ e. omega arith)

before_suc : (n : ℕ) → suc n - 1 ≡ n
before_suc n = omega arith

-- from a link and back
wait_back_lem : (given : ℕ) (w : Wait) → wait_at (wait_number w) (wait_out given w) ≡ w
wait_back_lem given Idle = refl
wait_back_lem given (Waiting k) = rw (not_zero (kind_number k), before_suc (kind_number k)) (ap Waiting (kind_back_lem given k))

-- a link in range: no more transfers are open than four, and an open control block has 1 to 127 bytes
abbrev pub RangedDoing : Option Action → Type 0
RangedDoing None = Unit
RangedDoing (Some Error) = Unit
RangedDoing (Some Event) = Unit
RangedDoing (Some (Address t)) = Unit
RangedDoing (Some (Block n)) = (0 < n) × (n < 128)

abbrev pub Ranged : Link → Type 0
Ranged l = (l.nested ≤ 30) × RangedDoing l.doing

pub block_at : (n : ℕ) → 6 < n → doing_at n ≡ Some (Block (n % 128))
block_at n h = rw (
  ne_eqb n 0 (λ e. omega arith),
  ne_eqb n 1 (λ e. omega arith),
  ne_eqb n 2 (λ e. omega arith),
  ne_eqb n 3 (λ e. omega arith),
  ne_eqb n 4 (λ e. omega arith),
  ne_eqb n 5 (λ e. omega arith),
  ne_eqb n 6 (λ e. omega arith),
)

doing_back_lem : (d : Option Action) → RangedDoing d → doing_at (doing_number d) ≡ d
doing_back_lem None h = refl
doing_back_lem (Some Error) h = refl
doing_back_lem (Some Event) h = refl
doing_back_lem (Some (Address Set)) h = refl
doing_back_lem (Some (Address Execute)) h = refl
doing_back_lem (Some (Address Load)) h = refl
doing_back_lem (Some (Address Save)) h = refl
doing_back_lem (Some (Block n)) h =
    let e : (128 + n % 128) % 128 ≡ n = omega arith in
    block_at (128 + n % 128) (omega arith) ∙ ap (λ (k : ℕ). Some (Block k)) e

-- the flags of a link, by the number of the open transfers
pub flags_low : (seen stopped : Bool) (n : ℕ) → n ≤ 30 → flags_number seen stopped n ≡ 4 * n + cond seen 1 0 + cond stopped 2 0
flags_low seen stopped n h = rw (le-leb n 30 h) refl

seen_back : (seen stopped : Bool) (n : ℕ) → n ≤ 30 → seen_at (flags_number seen stopped n) ≡ seen
seen_back true true n h = rw (flags_low true true n h) (eq-eqb ((4 * n + 1 + 2) % 2) 1 (omega arith))
seen_back true false n h = rw (flags_low true false n h) (eq-eqb ((4 * n + 1 + 0) % 2) 1 (omega arith))
seen_back false true n h = rw (flags_low false true n h) (ne_eqb ((4 * n + 0 + 2) % 2) 1 (λ e. omega arith))
seen_back false false n h = rw (flags_low false false n h) (ne_eqb ((4 * n + 0 + 0) % 2) 1 (λ e. omega arith))

stopped_back : (seen stopped : Bool) (n : ℕ) → n ≤ 30 → stopped_at (flags_number seen stopped n) ≡ stopped
stopped_back true true n h = rw (flags_low true true n h) (eq-eqb ((4 * n + 1 + 2) / 2 % 2) 1 (omega arith))
stopped_back true false n h = rw (flags_low true false n h) (ne_eqb ((4 * n + 1 + 0) / 2 % 2) 1 (λ e. omega arith))
stopped_back false true n h = rw (flags_low false true n h) (eq-eqb ((4 * n + 0 + 2) / 2 % 2) 1 (omega arith))
stopped_back false false n h = rw (flags_low false false n h) (ne_eqb ((4 * n + 0 + 0) / 2 % 2) 1 (λ e. omega arith))

flag_low : (set : Bool) (k : ℕ) → cond set k 0 ≤ k
flag_low true k = omega arith
flag_low false k = omega arith

nested_back : (seen stopped : Bool) (n : ℕ) → n ≤ 30 → nested_at (flags_number seen stopped n) ≡ n
nested_back seen stopped n h = rw (flags_low seen stopped n h) (omega (arith, flag_low seen 1, flag_low stopped 2))

pub link_back_lem : (f : FlatLink) (l : Link) → Ranged l → link_of (flat_of f l) ≡ l
link_back_lem f l h =
    let s = l.escape in
    let t = l.stopped in
    rw (wait_back_lem f.out_length l.wait, seen_back s t l.nested h.0, doing_back_lem l.doing h.1, nested_back s t l.nested h.0, stopped_back s t l.nested h.0)

-- the numbers of a link in range are in range, so that its flat record is one of that link again, and steps of flat records follow each other as those of
-- the link
wait_tag : (w : Wait) → leb (wait_number w) 13 ≡ true
wait_tag Idle = refl
wait_tag (Waiting k) = le-leb (suc (kind_number k)) 13 (omega (arith, kind_tag k))

abbrev action_ok : ℕ → Bool
action_ok n = leb n 6 || (leb 129 n && leb n 255)

doing_tag : (d : Option Action) → RangedDoing d → action_ok (doing_number d) ≡ true
doing_tag None h = refl
doing_tag (Some Error) h = refl
doing_tag (Some Event) h = refl
doing_tag (Some (Address Set)) h = refl
doing_tag (Some (Address Execute)) h = refl
doing_tag (Some (Address Load)) h = refl
doing_tag (Some (Address Save)) h = refl
doing_tag (Some (Block n)) h = rw (lt-leb (128 + n % 128) 6 (omega arith), le-leb 129 (128 + n % 128) (omega arith), le-leb (128 + n % 128) 255 (omega arith)) refl

flags_tag : (seen stopped : Bool) (n : ℕ) → n ≤ 30 → leb (flags_number seen stopped n) 123 ≡ true
flags_tag seen stopped n h = rw (flags_low seen stopped n h) (le-leb (4 * n + cond seen 1 0 + cond stopped 2 0) 123 (omega (arith, flag_low seen 1, flag_low stopped 2)))

pub tags_back : (f : FlatLink) (l : Link) → Ranged l → tags_ok (flat_of f l) ≡ true
unfolding tags_ok
tags_back f l h = rw (wait_tag l.wait, doing_tag l.doing h.1, flags_tag l.escape l.stopped l.nested h.0)

-- from a flat record and back
wait_same : (out n : ℕ) → leb n 13 ≡ true → (wait_number (wait_at n out) ≡ n) × (wait_out out (wait_at n out) ≡ out)
wait_same out zero h = (refl, refl)
wait_same out (suc n) h =
    let k = kind_same out n (omega (arith, leb-true (suc n) 13 h)) in
    (rw (not_zero n, before_suc n) (ap suc k.0), rw (not_zero n, before_suc n) k.1)

doing_same : (n : ℕ) → action_ok n ≡ true → doing_number (doing_at n) ≡ n
unfolding Each
doing_same n h = go (leb n 6) refl (leb 129 n) refl (leb n 255) refl h
  where
    go : (a : Bool) → leb n 6 ≡ a → (b : Bool) → leb 129 n ≡ b → (c : Bool) → leb n 255 ≡ c → (a || (b && c)) ≡ true → doing_number (doing_at n) ≡ n
    go true low b e c d k = each (λ (n : ℕ). doing_number (doing_at n) ≡ n) 7 (refl, (refl, (refl, (refl, (refl, (refl, (refl, tt))))))) n (omega (arith, leb-true n 6 low))
    go false low true e true d k =
        let m = leb-true 129 n e in
        let w = leb-true n 255 d in
        ap doing_number (block_at n (omega arith)) ∙ omega arith
    go false low true e false d k = cc
    go false low false e c d k = cc

flags_same : (n : ℕ) → leb n 123 ≡ true → flags_number (seen_at n) (stopped_at n) (nested_at n) ≡ n
flags_same n h =
    flags_low (seen_at n) (stopped_at n) (nested_at n) (omega (arith, leb-true n 123 h)) ∙ go (seen_at n) refl (stopped_at n) refl
  where
    go : (s : Bool) → seen_at n ≡ s → (t : Bool) → stopped_at n ≡ t → 4 * nested_at n + cond s 1 0 + cond t 2 0 ≡ n
    go true a true b = omega (arith, eqb-true (n % 2) 1 a, eqb-true (n / 2 % 2) 1 b)
    go true a false b = let q = eqb-false (n / 2 % 2) 1 b in omega (arith, eqb-true (n % 2) 1 a)
    go false a true b = let p = eqb-false (n % 2) 1 a in omega (arith, eqb-true (n / 2 % 2) 1 b)
    go false a false b = let p = eqb-false (n % 2) 1 a in let q = eqb-false (n / 2 % 2) 1 b in omega arith

-- the tests of a record in range
pub tags_facts : (f : FlatLink) → tags_ok f ≡ true → (leb f.wait 13 ≡ true) × (leb f.flags 123 ≡ true) × (action_ok f.action ≡ true)
unfolding tags_ok
tags_facts f ok =
    let p = and_both (leb f.wait 13) (leb f.flags 123 && action_ok f.action) ok in
    let q = and_both (leb f.flags 123) (action_ok f.action) p.1 in
    (p.0, q.0, q.1)

pub flat_back : (f : FlatLink) → tags_ok f ≡ true → flat_of f (link_of f) ≡ f
flat_back f ok =
    let t = tags_facts f ok in
    let w = wait_same f.out_length f.wait t.0 in
    rw (w.0, w.1, doing_same f.action t.2, flags_same f.flags t.1)

-- a record in range is of a link in range
doing_ranged : (n : ℕ) → action_ok n ≡ true → RangedDoing (doing_at n)
unfolding Each
doing_ranged n h = go (leb n 6) refl (leb 129 n) refl (leb n 255) refl h
  where
    go : (a : Bool) → leb n 6 ≡ a → (b : Bool) → leb 129 n ≡ b → (c : Bool) → leb n 255 ≡ c → (a || (b && c)) ≡ true → RangedDoing (doing_at n)
    go true low b e c d k = each (λ (n : ℕ). RangedDoing (doing_at n)) 7 (tt, (tt, (tt, (tt, (tt, (tt, (tt, tt))))))) n (omega (arith, leb-true n 6 low))
    go false low true e true d k =
        let m = leb-true 129 n e in
        let w = leb-true n 255 d in
        subst RangedDoing (sym (block_at n (omega arith))) (omega arith, omega arith)
    go false low true e false d k = cc
    go false low false e c d k = cc

pub link_ranged : (f : FlatLink) → tags_ok f ≡ true → Ranged (link_of f)
link_ranged f ok = let t = tags_facts f ok in (omega (arith, leb-true f.flags 123 t.1), doing_ranged f.action t.2)

and_true : (b : Bool) → (b && true) ≡ b
and_true true = refl
and_true false = refl

-- the tests of a record whose action is a byte
pub tags_tests : (f : FlatLink) → f.action < 256 → tags_ok f ≡ (leb f.wait 13 && (leb f.flags 123 && (leb f.action 6 || leb 129 f.action)))
unfolding tags_ok
tags_tests f h = rw (le-leb f.action 255 (omega arith), and_true)

-- a record whose link is told, and one that has none
pub link_known : (f : FlatLink) {l : Link} → Some l ≡ known_link f → (tags_ok f ≡ true) × (l ≡ link_of f)
link_known f {l} e = go (tags_ok f) refl e
  where
    go : (t : Bool) → tags_ok f ≡ t → Some l ≡ cond t (Some (link_of f)) None → (tags_ok f ≡ true) × (l ≡ link_of f)
    go true ok e = (ok, cc)
    go false off e = cc

pub link_unknown : (f : FlatLink) → None ≡ known_link f → tags_ok f ≡ false
link_unknown f e = go (tags_ok f) refl e
  where
    go : (t : Bool) → tags_ok f ≡ t → None ≡ cond t (Some (link_of f)) None → tags_ok f ≡ false
    go true ok e = cc
    go false off e = off
