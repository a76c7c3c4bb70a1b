-- The action reader and the body of a transfer, which call each other: one law for each way that they go.
use Rattle.std.specs.Prelude.{Option, Some, None, Result}
use Prim.Native.Nat.{ℕ, ◌+◌, ◌≤◌, min}
use native.Mathlib.Numerals.{add-one}
use native.Mathlib.Omega.{arith}
use mathlib.Core.Path.{◌≡◌, refl, sym, subst, ◌∙◌}
use mathlib.Core.Bool.{Bool, true, false}
use mathlib.Core.List.{List, [], ◌∷◌, ◌++◌, append_assoc, map}
use lib.ListN.{length}
use Rattle.escape.specs.Units as units
use Rattle.escape.specs.Units.{unit_at}
use Rattle.escape.proofs.Units.{data_near, mark_near}
use Rattle.serial_rules.specs.Link as rules
use Rattle.actions.specs.Actions.{meaning_for}
use Rattle.actions.specs.declared.Meaning.{Meaning}
use Rattle.actions.specs.declared.Meaning.TheVariants as meaning
use Rattle.refusal.specs.declared.Refusal.TheVariants.{BadField}
use Rattle.refusal.specs.Refusals.{number}
use Rattle.answers.specs.declared.Answer.{Answer}
use Rattle.answers.specs.declared.Answer.TheVariants as variant
use Rattle.answers.specs.Reports.{transfer_for, report_of}
use Rattle.notes.specs.declared.Log.{Log}
use Rattle.notes.specs.Logs.{most_count, AddDone}
use Rattle.action_bytes.specs.declared.Began.{Began}
use Rattle.action_bytes.specs.declared.Halt.{Halt}
use Rattle.action_bytes.specs.Walk.{Went, Body, Act}
use Rattle.action_bytes.specs.Parts.{BeganHalt, BeganTold, BeganOpens, BeganDone, depth_for}
use Rattle.action_bytes.proofs.Parts.{ends_more, ends_refused}
use Rattle.transfers.specs.declared.Walked.{Walked}
use Rattle.transfers.specs.declared.Loads.{Loads}
use Rattle.transfers.specs.Parts.{went_of, halted_at, going_at, EndedWell, Logged, Gives, BodyDone, ActDone, LoadDone, is_end}
use Rattle.transfers.proofs.Walk as laws
use Rattle.transfers.proofs.Parts.{logged_then, gives_none, gives_then, gives_one}

-- The place behind a mark lies in the recording.
pub at_mark : {s : List ℕ} {d m n : ℕ} (i : ℕ) {w : rules.Meaning} {log : Log} {notes content : List ℕ} {r : Walked} {own-left notes-left content-left : List ℕ} → unit_at s i ≡ units.mark m n
    → ActDone s d (min n (length s)) w log notes content r own-left notes-left content-left
    → ActDone s d n w log notes content r own-left notes-left content-left
at_mark {s} {n = n} i u a = let e : min n (length s) ≡ n = omega (arith, (mark_near s i u).1) in rw e at a

-- An end is met outside every transfer alone, so that an action begins at the depth that it is read at.
depth_same : (w : rules.Meaning) {d : ℕ} → (w ≡ rules.end → d ≡ 0) → depth_for w d ≡ d
depth_same rules.unknown z = refl
depth_same (rules.state x) z = refl
depth_same rules.end z = sym (z refl)
depth_same (rules.starts a) z = refl

pub begun : (s : List ℕ) (d at m : ℕ) (own : List ℕ) {r q : Result Began Halt} → (rules.meaning_of m ≡ rules.end → d ≡ 0) → r ≡ q
    → BeganDone s (depth_for (rules.meaning_of m) d) (min at (length s)) (rules.meaning_of m) own r
    → BeganDone s d (min at (length s)) (rules.meaning_of m) own q
begun s d at m own {q = q} z e b =
    subst (λ (n : ℕ). BeganDone s n (min at (length s)) (rules.meaning_of m) own q) (depth_same (rules.meaning_of m) z)
    (subst (BeganDone s (depth_for (rules.meaning_of m) d) (min at (length s)) (rules.meaning_of m) own) e b)

-- the action reader
module _ {s : List ℕ} {d i : ℕ} {w : rules.Meaning} {own : List ℕ} {answer : Answer} {k : ℕ} {log : Log} {notes content : List ℕ} where
  pub act_halts : BeganHalt s d i w own answer k → ActDone s d i w log notes content (halted_at answer k log) own notes content
  act_halts b = record { given = []; says = b.says; ends = b.ends; logged = Logged.none; gives = λ n less. gives_none (omega (arith, b.far)); far = b.far; near = b.near }

  pub act_tells : {end : Log} {notes-left content-left : List ℕ} → length s ≤ most_count → BeganTold s d i w own answer k
      → AddDone log answer own notes content end notes-left content-left
      → ActDone s d i w log notes content (going_at k end) own notes-left content-left
  act_tells most b a = record {
    given = report_of answer [] own ∷ [];
    says = b.says;
    ends = tt;
    logged = Logged.one a Logged.none;
    gives = λ n less. gives_one a b.own_data (omega (arith, b.far)) (omega (arith, b.far)) (omega (arith, b.near));
    far = omega (arith, b.far);
    near = b.near;
  }

  pub act_opens : {save : Bool} {mid : Log} {r : Walked} {notes-mid content-mid own-left notes-left content-left : List ℕ} → length s ≤ most_count
      → BeganOpens s d i w own save answer k
      → AddDone log answer own notes content mid notes-mid content-mid
      → BodyDone s save (d + 1) k mid notes-mid content-mid r own-left notes-left content-left
      → ActDone s d i w log notes content r own-left notes-left content-left
  act_opens {save} {r = r} {own-left = own-left} most b a y =
      let v = went_of r.end r.at own-left in
      record {
        given = report_of answer [] own ∷ y.given;
        says = b.says y.given v (subst (λ (m : ℕ). Body s (transfer_for save) m k y.given v) (add-one d) y.says);
        ends = y.ends;
        logged = Logged.one a y.logged;
        gives = λ n less. gives_then (gives_one a (omega (arith, b.own_data), omega (arith, b.own_data)) (omega (arith, b.far)) (omega (arith, b.far, b.own_data)) (omega (arith, b.near))) y.gives;
        far = omega (arith, b.far, y.far);
        near = y.near;
      }

-- The body of a transfer, from a place on: what was given so far, and how the link came here.
pub record Walking (s : List ℕ) (save : Bool) (d from : ℕ) (notes₀ content₀ : List ℕ) (log₀ : Log) (notes content : List ℕ) (log : Log) (i : ℕ) : Type 0 where
  pub given : List rules.Report
  pub chain : (g : List rules.Report) (v : Went) → Body s (transfer_for save) d i g v → Body s (transfer_for save) d from (given ++ g) v
  pub logged : Logged log₀ notes₀ content₀ given log notes content
  pub gives : Gives given log₀ from notes₀ content₀ log i notes content
  pub far : from ≤ i
  pub near : i ≤ length s
  pub notes_size : length notes ≡ length notes₀
  pub content_size : length content ≡ length content₀

pub walk_starts : {s : List ℕ} {save : Bool} {d from : ℕ} {notes content : List ℕ} {log : Log} → from ≤ length s
    → Walking s save d from notes content log notes content log from
walk_starts le = record {
  given = [];
  chain = λ g v b. b;
  logged = Logged.none;
  gives = gives_none (omega arith);
  far = omega arith;
  near = le;
  notes_size = refl;
  content_size = refl;
}

end_means : (w : Meaning) → is_end w ≡ true → meaning_for w ≡ rules.end
end_means meaning.Unknown e = cc
end_means (meaning.State x) e = cc
end_means meaning.End e = refl
end_means (meaning.Starts a) e = cc

pub end_not : (w : Meaning) {d : ℕ} → is_end w ≡ false → meaning_for w ≡ rules.end → d ≡ 0
end_not meaning.Unknown e h = cc
end_not (meaning.State x) e h = cc
end_not meaning.End e h = cc
end_not (meaning.Starts a) e h = cc

module _ {s : List ℕ} {save : Bool} {d from : ℕ} {notes₀ content₀ : List ℕ} {log₀ : Log} {notes content : List ℕ} {log : Log} {i : ℕ}
    (v : Walking s save d from notes₀ content₀ log₀ notes content log i) where
  -- the body is over, or the reading ended
  over : {r : Walked} {own-left notes-left content-left : List ℕ} (g : List rules.Report)
      → Body s (transfer_for save) d i g (went_of r.end r.at own-left) → EndedWell r.end own-left
      → Logged log notes content g r.log notes-left content-left → Gives g log i notes content r.log r.at notes-left content-left → i ≤ r.at → r.at ≤ length s
      → BodyDone s save d from log₀ notes₀ content₀ r own-left notes-left content-left
  over {r} {own-left} g b e w k f n = record {
    given = v.given ++ g;
    says = v.chain g (went_of r.end r.at own-left) b;
    ends = e;
    logged = logged_then v.logged w;
    gives = gives_then v.gives k;
    far = omega (arith, v.far);
    near = n;
  }

  -- the body goes on
  goes : {notes-left content-left : List ℕ} {end : Log} {k : ℕ} (g : List rules.Report)
      → ((h : List rules.Report) (x : Went) → Body s (transfer_for save) d k h x → Body s (transfer_for save) d i (g ++ h) x)
      → Logged log notes content g end notes-left content-left → Gives g log i notes content end k notes-left content-left → i ≤ k → k ≤ length s
      → length notes-left ≡ length notes → length content-left ≡ length content
      → Walking s save d from notes₀ content₀ log₀ notes-left content-left end k
  goes g b w k f n p q = record {
    given = v.given ++ g;
    chain = λ h x y. subst (λ (z : List rules.Report). Body s (transfer_for save) d from z x) (sym (append_assoc v.given g h)) (v.chain (g ++ h) x (b h x y));
    logged = logged_then v.logged w;
    gives = gives_then v.gives k;
    far = omega (arith, v.far);
    near = n;
    notes_size = p ∙ v.notes_size;
    content_size = q ∙ v.content_size;
  }

  pub walk_ran_out : {own : List ℕ} → unit_at s i ≡ units.gone
      → BodyDone s save d from log₀ notes₀ content₀ (halted_at variant.More (length s) log) own notes content
  walk_ran_out u = over [] (laws.body_gone s d i v.near (transfer_for save) u) ends_more Logged.none (gives_none v.near) v.near (omega arith)

  pub walk_saved : {b n : ℕ} {own : List ℕ} → unit_at s i ≡ units.datum b n → save ≡ true
      → BodyDone s save d from log₀ notes₀ content₀ (halted_at (variant.Refused (number BadField)) n log) own notes content
  walk_saved {b} {n} {own} u e =
      let k = data_near s i u in
      over [] (subst (λ (x : Bool). Body s (transfer_for x) d i [] (went_of (Some (variant.Refused (number BadField))) n own)) (sym e) (laws.body_saved s d i v.near u))
      (ends_refused (number BadField)) Logged.none (gives_none (omega arith)) (omega arith) k.1

  pub walk_loads : {b n : ℕ} {r : Loads} {notes-left content-left : List ℕ} → unit_at s i ≡ units.datum b n → save ≡ false
      → LoadDone s b n log notes content r notes-left content-left
      → length notes-left ≡ length notes → length content-left ≡ length content
      → Walking s save d from notes₀ content₀ log₀ notes-left content-left r.log r.at
  walk_loads {b} {n} {r} u e l p q =
      let k = data_near s i u in
      goes (map rules.loaded (b ∷ l.more))
      (λ h x y.
      subst (λ (z : Bool). Body s (transfer_for z) d i (rules.loaded b ∷ (map rules.loaded l.more ++ h)) x) (sym e)
      (laws.body_data s d i v.near u
      (laws.body_run s d n l.more l.is l.plain
      (subst (λ (m : ℕ). Body s rules.load d m h x) l.at (subst (λ (z : Bool). Body s (transfer_for z) d r.at h x) e y)))))
      l.logged (l.gives i k.0) (omega (arith, l.at)) l.near p q

  pub walk_ends : {m n : ℕ} (w : Meaning) {end : Log} {own notes-left content-left : List ℕ} → length s ≤ most_count → unit_at s i ≡ units.mark m n
      → meaning_for w ≡ rules.meaning_of m → is_end w ≡ true
      → AddDone log (variant.Ended save) own notes content end notes-left content-left
      → BodyDone s save d from log₀ notes₀ content₀ (going_at n end) own notes-left content-left
  walk_ends w most u is e a =
      let k = mark_near s i u in
      over (rules.ended (transfer_for save) ∷ []) (laws.body_end s d i v.near (transfer_for save) u (sym is ∙ end_means w e)) tt (Logged.one a Logged.none)
      (gives_one a (omega arith, omega arith) (omega arith) (omega arith) (omega arith)) (omega arith) k.1

  module _ {m n : ℕ} {r : Walked} {own-left notes-left content-left : List ℕ} (u : unit_at s i ≡ units.mark m n)
      (b : ActDone s d (min n (length s)) (rules.meaning_of m) log notes content r own-left notes-left content-left) where
    a : ActDone s d n (rules.meaning_of m) log notes content r own-left notes-left content-left
    a = at_mark i u b

    pub walk_acts : r.end ≡ None → length notes-left ≡ length notes → length content-left ≡ length content
        → Walking s save d from notes₀ content₀ log₀ notes-left content-left r.log r.at
    walk_acts e p q =
        let k = mark_near s i u in
        goes a.given
        (λ h x y. laws.body_act s d i v.near (transfer_for save) u (subst (λ (z : Option Answer). Act s d n (rules.meaning_of m) a.given (went_of z r.at own-left)) e a.says) y)
        a.logged (a.gives i (omega arith)) (omega (arith, a.far)) a.near p q

    pub walk_halts : {answer : Answer} → r.end ≡ Some answer → BodyDone s save d from log₀ notes₀ content₀ r own-left notes-left content-left
    walk_halts {answer} e =
        let k = mark_near s i u in
        over a.given
        (subst (λ (z : Option Answer). Body s (transfer_for save) d i a.given (went_of z r.at own-left)) (sym e)
        (laws.body_halt s d i v.near (transfer_for save) u (subst (λ (z : Option Answer). Act s d n (rules.meaning_of m) a.given (went_of z r.at own-left)) e a.says)))
        a.ends a.logged (a.gives i (omega arith)) (omega (arith, a.far)) a.near
