-- What `write_reply`, `reply_step` and `read_reply` promise of flat records, from what the functions below them do.
use Prim.Native.Nat.{ℕ, ◌≤◌}
use mathlib.Core.Path.{◌≡◌, refl, ap, ◌∙◌}
use mathlib.Core.Bool.{Bool, true, false, cond, not, ◌&&◌}
use mathlib.Core.List.{List}
use borrow.Author.Tests.{le-leb, lt-leb, leb-true, leb-false}
use lib.Dec.{eqb, leb, ltb}
use lib.ListN.{length}
use Rattle.std.specs.Prelude.{Option, Some, None, Err}
use Rattle.serial_rules.specs.Call.{string_limit}
use Rattle.serial_rules.proofs.Trip.{and_both}
use Rattle.carrier.specs.Carriers.{last_carrier}
use Rattle.refusal.specs.declared.Refusal.TheVariants.{TooLong, BadField}
use Rattle.fields.specs.Promise.{Written}
use Rattle.kind.specs.declared.CallKind.{CallKind}
use Rattle.reply.specs.Promise.{Given, ReadDone}
use Rattle.flat.specs.declared.FlatWritten.{FlatWritten}
use Rattle.flat.specs.Flat.{flag_number, flat_written}
use Rattle.flat.proofs.Flags.{refused}
use Rattle.flat_kind.specs.Kinds.{kind_at, known_kind, last_call}
use Rattle.flat_reply.specs.Replies.{reply_at, reply_from, numbers_known, flat_given, NumberedDone, FlatReplyDone, FlatReadDone}
use Rattle.flat_reply.specs.declared.FlatGiven.{FlatGiven}

-- a carry by its number, or by whether that is set
carry_same : (n carry x y a : ℕ) → reply_at n (flag_number 0 (not (eqb carry 0))) x y a ≡ reply_at n carry x y a
carry_same n carry x y a = go (eqb carry 0) refl
  where
    go : (t : Bool) → eqb carry 0 ≡ t → reply_at n (flag_number 0 (not (eqb carry 0))) x y a ≡ reply_at n carry x y a
    go true e = rw e refl
    go false e = rw e refl

module _ (carrier call o n carry x y a : ℕ) {b t out left : List ℕ} {r : Written} where
  -- another carrier, or no reply
  off_range : NumberedDone carrier (known_kind call o) (reply_from n (not (eqb carry 0)) x y a) b t out r left → call ≤ last_call
      → (leb carrier last_carrier && leb n 9) ≡ false → (r ≡ Err (cond (ltb string_limit (length t)) TooLong BadField)) × (left ≡ out)
  off_range d k off = go (leb carrier last_carrier) refl off
    where
      go : (c : Bool) → leb carrier last_carrier ≡ c → (c && leb n 9) ≡ false → (r ≡ Err (cond (ltb string_limit (length t)) TooLong BadField)) × (left ≡ out)
      go false p h = d.no_carrier (kind_at call o) (rw (le-leb call last_call k)) (leb-false carrier last_carrier p)
      go true p h = d.no_reply (kind_at call o) (rw (le-leb call last_call k)) (rw h)

  pub flat : {f : FlatWritten} → NumberedDone carrier (known_kind call o) (reply_from n (not (eqb carry 0)) x y a) b t out r left → f ≡ flat_written r
      → FlatReplyDone carrier call (kind_at call o) n (reply_at n carry x y a) b t out f left
  unfolding numbers_known
  flat d e =
      let kind = kind_at call o in
      record {
        known = λ k ok.
            let z = and_both (leb carrier last_carrier) (leb n 9) ok in
            record {
              written = r;
              done = d.known kind (reply_at n carry x y a) (rw (le-leb call last_call k)) (rw (z.1, carry_same n carry x y a)) (leb-true carrier last_carrier z.0);
              is = e;
            };
        no_call = λ above. let w = d.no_call (rw (lt-leb call last_call above)) in (rw w.0 at e, w.1);
        no_field = λ k off. let w = off_range d k off in (e ∙ ap flat_written w.0 ∙ refused (ltb string_limit (length t)), w.1);
      }

-- the kind that a number names is that of the number
some_same : {A : Type 0} {x y : A} → Some x ≡ Some y → y ≡ x
some_same e = cc

none_some : {A : Type 0} {x : A} → ◌≡◌ {A = Option A} None (Some x) → ⊥
none_some e = cc

pub given : (call o : ℕ) {k : CallKind} {s : List ℕ} {g : Given} {f : FlatGiven} → known_kind call o ≡ Some k → ReadDone k s g → f ≡ flat_given g
    → FlatReadDone call (kind_at call o) s f
given call o {g = g} named d e =
    record {
      known = λ low. let same = some_same (rw (le-leb call last_call low) at named) in record { given = g; read = rw same at d; is = e };
      unknown = λ high. absurd (none_some (rw (lt-leb call last_call high) at named));
    }
