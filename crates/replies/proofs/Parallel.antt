-- Round trips of the program's own reply writer and of its reading by the byte, on the parallel side and for every kind of call.
use Prim.Native.Nat.{ℕ, zero, suc, ◌+◌, ◌-◌, ◌≤◌, ◌<◌}
use native.Mathlib.Omega.{arith}
use mathlib.Core.Path.{◌≡◌, refl, sym, ap, ap₂, subst, ◌∙◌}
use mathlib.Core.Bool.{true}
use mathlib.Core.List.{List, [], ◌∷◌, ◌++◌, append_assoc}
use lib.ListN.{length, take, set, length-take, length-set}
use Rattle.serial_rules.specs.Body.{Turn, more, done, refused}
use Rattle.serial_rules.specs.Call.{parallel}
use Rattle.serial_rules.specs.Lent.{turn_lent}
use Rattle.serial_rules.specs.Reply as rules
use Rattle.serial_rules.specs.Reply.{reply_turn, reply_turns, longest, shape_of}
use Rattle.serial_rules.proofs.Lent.{take_next}
use Rattle.serial_rules.proofs.Parallel.{last_done, turn_below, parallel_read_back, parallel_rewritten}
use Rattle.fields.specs.Promise.{Written}
use Rattle.fields.specs.Promise.{number}
use Rattle.fields.proofs.Wrote.{wrote, wrote_is}
use Rattle.turns.specs.Turns.{turn_of}
use Rattle.kind.specs.Kinds.{kind_for, reply_lent}
use Rattle.kind.specs.declared.CallKind.{CallKind}
use Rattle.reply.specs.declared.Reply.{Reply}
use Rattle.reply.specs.Promise.{Given}
use Rattle.reply.specs.Promise.{reply_for, given_in, ReadDone}
use Rattle.reply_reader.specs.declared.Taken.{Taken}
use Rattle.reply_reader.specs.Promise.{count_after, TakeDone}
use Rattle.reply_writer.specs.Promise.{ReplyWritten}
use Rattle.replies.specs.Takes.{Takes, stop, took}
use Rattle.replies.proofs.Trips.{passed, rewrites}

-- The longest reply fits the lent bytes: an OSWORD's out length is a byte.
module _ (k : CallKind) (most : longest (shape_of (kind_for k)) ≤ reply_lent) where
  -- A byte that is not refused stands behind those before it.
  record Stands (n b : ℕ) (lent : List ℕ) (o : Taken) (left : List ℕ) : Type 0 where
    count : o.count ≡ n + 1
    bytes : take o.count left ≡ take n lent ++ (b ∷ [])
    whole : length left ≡ reply_lent

  stands : {n b : ℕ} {lent left : List ℕ} {o : Taken} (t : Turn) → reply_turn (kind_for k) (take n lent) b ≡ t → (refused 7 ≡ t → ⊥) → count_after n t ≡ n + 1 → turn_lent lent n b t ≡ set lent n b
      → length lent ≡ reply_lent → TakeDone k n b lent o left → Stands n b lent o left
  stands {n} {b} {lent} {left} {o} t e h c s whole d =
      let below = turn_below (kind_for k) (take n lent) b e h in
      let room : n < length lent = omega (arith, below, most, whole, length-take n lent) in
      let count : o.count ≡ n + 1 = d.count_is ∙ ap (count_after n) e ∙ c in
      let left_is : left ≡ set lent n b = d.bytes ∙ ap (turn_lent lent n b) e ∙ s in
      record {
        count = count;
        bytes = ap₂ (λ (i : ℕ) (l : List ℕ). take i l) count left_is ∙ take_next lent n b room;
        whole = ap length left_is ∙ length-set lent n b ∙ whole;
      }

  stands_more : {n b : ℕ} {lent left : List ℕ} {o : Taken} → reply_turn (kind_for k) (take n lent) b ≡ more → length lent ≡ reply_lent → TakeDone k n b lent o left → Stands n b lent o left
  stands_more e = stands more e (λ q. cc) refl refl

  stands_done : {n b : ℕ} {lent left : List ℕ} {o : Taken} → reply_turn (kind_for k) (take n lent) b ≡ done → length lent ≡ reply_lent → TakeDone k n b lent o left → Stands n b lent o left
  stands_done e = stands done e (λ q. cc) refl refl

  -- the turns of a reply that ends at its last byte, from the rules to the program and back
  pub forth : {n m : ℕ} {lent l end : List ℕ} {turns : List Turn} (waits : ℕ) → Takes k n lent l turns m end → length lent ≡ reply_lent
      → reply_turns (kind_for k) (take n lent) l ≡ last_done waits → (turns ≡ last_done waits) × (take m end ≡ take n lent ++ l)
  unfolding reply_turns
  forth zero stop whole e = cc
  forth (suc waits) stop whole e = cc
  forth zero (took {n = n} {b = b} {lent = lent} d stop) whole e =
      let t : reply_turn (kind_for k) (take n lent) b ≡ done = cc in
      (ap (λ (x : Turn). x ∷ []) (d.turn_is ∙ t), (stands_done t whole d).bytes)
  forth zero (took d (took f s)) whole e = cc
  forth (suc waits) (took {n = n} {b = b} {lent = lent} {l = l} d s) whole e =
      let t : reply_turn (kind_for k) (take n lent) b ≡ more = cc in
      let u : reply_turns (kind_for k) (take n lent ++ (b ∷ [])) l ≡ last_done waits = cc in
      let w = stands_more t whole d in
      let q = forth waits s w.whole (ap (λ (r : List ℕ). reply_turns (kind_for k) r l) w.bytes ∙ u) in
      (ap₂ (λ (x : Turn) (y : List Turn). x ∷ y) (d.turn_is ∙ t) q.0, q.1 ∙ ap (λ (r : List ℕ). r ++ l) w.bytes ∙ append_assoc (take n lent) (b ∷ []) l)

  pub back : {n m : ℕ} {lent l end : List ℕ} {turns : List Turn} (waits : ℕ) → Takes k n lent l turns m end → length lent ≡ reply_lent
      → turns ≡ last_done waits → (reply_turns (kind_for k) (take n lent) l ≡ last_done waits) × (take m end ≡ take n lent ++ l)
  unfolding reply_turns
  back zero stop whole e = cc
  back (suc waits) stop whole e = cc
  back zero (took {b = b} {o = o} d stop) whole e =
      let t : turn_of o.turn ≡ done = cc in
      let u = sym d.turn_is ∙ t in
      (ap (λ (x : Turn). x ∷ []) u, (stands_done u whole d).bytes)
  back zero (took d (took f s)) whole e = cc
  back (suc waits) (took {n = n} {b = b} {lent = lent} {l = l} {o = o} {turns = turns} d s) whole e =
      let t : turn_of o.turn ≡ more = cc in
      let v : turns ≡ last_done waits = cc in
      let u = sym d.turn_is ∙ t in
      let w = stands_more u whole d in
      let q = back waits s w.whole v in (
        ap₂ (λ (x : Turn) (y : List Turn). x ∷ y) u (sym (ap (λ (r : List ℕ). reply_turns (kind_for k) r l) w.bytes) ∙ q.0),
        q.1 ∙ ap (λ (r : List ℕ). r ++ l) w.bytes ∙ append_assoc (take n lent) (b ∷ []) l,
      )

-- What a parasite makes of the bytes w that a host wrote for its call: every byte but the last needs more, the reply so far is what was written, and
-- it means that reply; an OSWORD with out length 0 has no byte.
pub record ParallelReply (k : rules.Kind) (g : rules.Given) (w : List ℕ) (turns : List Turn) (got : List ℕ) : Type 0 where
  pub none : longest (shape_of k) ≡ 0 → w ≡ []
  pub turns_are : (longest (shape_of k) ≡ 0 → ⊥) → turns ≡ last_done (length w - 1)
  pub got_is : (longest (shape_of k) ≡ 0 → ⊥) → got ≡ w
  pub meaning : rules.reply_read k w ≡ g

-- Writing then reading on the parallel side, by the kind of the call that waits.
pub parallel_written_read : (host parasite : CallKind) (reply : Reply) (b t out : List ℕ) {left lent end : List ℕ} {r : Written} {m : ℕ} {turns : List Turn}
    → ReplyWritten parallel host reply b t out r left → number r ≡ 0 → kind_for host ≡ kind_for parasite → longest (shape_of (kind_for parasite)) ≤ reply_lent → length lent ≡ reply_lent
    → Takes parasite 0 lent (wrote r left) turns m end
    → ParallelReply (kind_for parasite) (rules.given (reply_for reply) b t) (wrote r left) turns (take m end)
unfolding rules.reply_encoding
parallel_written_read host parasite reply b t out {left = left} {lent = lent} {end = end} {r = r} {m = m} {turns = turns} d e same most whole s =
    let p = passed parallel (kind_for host) (reply_for reply) b t (length out) (sym d.answer ∙ e) in
    let k = kind_for parasite in
    let bytes = rules.reply_bytes (reply_for reply) b t in
    let w : wrote r left ≡ bytes = wrote_is d e in
    let a = parallel_read_back k (reply_for reply) b t (subst (λ (x : rules.Kind). rules.reply_ok x (reply_for reply) b t ≡ true) same p.1) p.0 in
    let q : (longest (shape_of k) ≡ 0 → ⊥) → (turns ≡ last_done (length bytes - 1)) × (take m end ≡ bytes) = λ z. forth parasite most (length bytes - 1) (subst (λ (l : List ℕ). Takes parasite 0 lent l turns m end) w s) whole (a.turns z) in
    record {
      none = λ z. w ∙ a.none z;
      turns_are = λ z. (q z).0 ∙ ap (λ (l : List ℕ). last_done (length l - 1)) (sym w);
      got_is = λ z. (q z).1 ∙ sym w;
      meaning = ap (rules.reply_read k) w ∙ a.meaning;
    }

-- Reading then writing on the parallel side. A reply that was read to its last byte, with its fields read by the kind of its call: the writer accepts it
-- wherever there is room for it, and writes those bytes in their normal form.
pub parallel_read_written : {lent end s out after : List ℕ} {m : ℕ} {turns : List Turn} {r : Written} (kind : CallKind) (g : Given) (waits : ℕ)
    → longest (shape_of (kind_for kind)) ≤ reply_lent → length lent ≡ reply_lent → Takes kind 0 lent s turns m end → turns ≡ last_done waits → ReadDone kind s g
    → ReplyWritten parallel kind g.said (given_in g s).block (given_in g s).text out r after → length (rules.normal_of (kind_for kind) s) ≤ length out
    → (number r ≡ 0) × (wrote r after ≡ rules.normal_of (kind_for kind) s)
parallel_read_written {s = s} kind g waits most whole t e fields d room =
    rewrites parallel kind g (parallel_rewritten (kind_for kind) s waits (back kind most waits t whole e).0) fields d room
