-- Replies, written then read and read then written. A reply that fits its kind ends at its last byte, so a link begun with that kind
-- gives it there; and what its bytes mean to that kind is the reply.
use Prim.Native.Nat.{ℕ, suc, ◌-◌, ◌≤◌}
use mathlib.Core.Path.{◌≡◌, refl, sym, ap, subst, ◌∙◌}
use mathlib.Core.Bool.{Bool, true, false, not, ◌&&◌, ◌||◌}
use mathlib.Core.List.{List, [], ◌∷◌, ◌++◌, map, append_assoc, append-nil}
use native.Mathlib.Omega.{arith}
use lib.Dec.{eqb}
use lib.ListN.{length, length-append}
use lib.Seq.{take_at, get_or_at}
use borrow.Author.Tests.{eq-eqb, ne_eqb, eqb-true, not-true}
use Rattle.serial_rules.specs.Escape.{escaped}
use Rattle.serial_rules.specs.Marks.{bit}
use Rattle.serial_rules.specs.Fields.{at}
use Rattle.serial_rules.specs.Call.{return, has_return}
use Rattle.serial_rules.specs.Body.{more, done}
use Rattle.serial_rules.specs.Reply.{Kind, osrdch, oscli, osbyte_low, osbyte_high, osword, osword0, osargs, osbget, osbput, osfind_close, osfind_open, osfile, osgbpb, fixed, line, shape_of, shape_turn, longest, Reply, carry_a, ack, byte, carry_yx, block, escaped_line, read_line, a_block, plain, block_carry_a, carry_byte, ack_byte, reply_bytes, form_of, form_in, block_in, has_line, reply_ok, given, flag, reply_read}
use Rattle.serial_rules.specs.Link.{need_more, reply, none, datum, Frame, frame, waiting, holds, Met, reply_turned, meets, live, fresh, link_at, begun, complete, begins, enters, begin}
use Rattle.serial_rules.specs.Session.{Input, raw, Told, report, tells, token, signs, says, fill, behind, between}
use Rattle.serial_rules.proofs.Trip.{and_both}
use Rattle.serial_rules.proofs.Session.{layers_told}
use Rattle.serial_rules.proofs.Parts.{second, data_signs, behind_data, fill_append, fill_data, length_snoc}
use Rattle.serial_rules.proofs.Actions.{underway_said}
use Rattle.serial_rules.proofs.Finished.{zero_long}
use Rattle.serial_rules.proofs.Ends.{Ends, last, next, fixed_ends, line_ends}

-- the replies of each form
data In : ℕ → Reply → Type 0 where
  in0 : {c : Bool} {a : ℕ} → In 0 (carry_a c a)
  in1 : {k : Bool} → In 1 (ack k)
  in2 : {x : ℕ} → In 2 (byte x)
  in3 : {c : Bool} {y x : ℕ} → In 3 (carry_yx c y x)
  in4 : In 4 block
  in5e : In 5 escaped_line
  in5l : In 5 read_line
  in6 : {a : ℕ} → In 6 (a_block a)
  in7 : In 7 plain
  in8 : {c : Bool} {a : ℕ} → In 8 (block_carry_a c a)

in_form : (r : Reply) → In (form_in r) r
in_form (carry_a c a) = in0
in_form (ack k) = in1
in_form (byte x) = in2
in_form (carry_yx c y x) = in3
in_form block = in4
in_form escaped_line = in5e
in_form read_line = in5l
in_form (a_block a) = in6
in_form plain = in7
in_form (block_carry_a c a) = in8

-- a reply that fits its kind
data Fits : Kind → Reply → Type 0 where
  rdch : {c : Bool} {a : ℕ} → Fits osrdch (carry_a c a)
  cli : {k : Bool} → Fits oscli (ack k)
  low : {x : ℕ} → Fits osbyte_low (byte x)
  high : {c : Bool} {y x : ℕ} → Fits osbyte_high (carry_yx c y x)
  word : {n : ℕ} → Fits (osword n) block
  gone : Fits osword0 escaped_line
  typed : Fits osword0 read_line
  args : {a : ℕ} → Fits osargs (a_block a)
  bget : {c : Bool} {a : ℕ} → Fits osbget (carry_a c a)
  bput : Fits osbput plain
  closed : Fits osfind_close plain
  opened : {a : ℕ} → Fits osfind_open (byte a)
  file : {a : ℕ} → Fits osfile (a_block a)
  gbpb : {c : Bool} {a : ℕ} → Fits osgbpb (block_carry_a c a)

fits_in : (k : Kind) (r : Reply) → In (form_of k) r → Fits k r
fits_in osrdch r in0 = rdch
fits_in oscli r in1 = cli
fits_in osbyte_low r in2 = low
fits_in osbyte_high r in3 = high
fits_in (osword n) r in4 = word
fits_in osword0 r in5e = gone
fits_in osword0 r in5l = typed
fits_in osargs r in6 = args
fits_in osbget r in0 = bget
fits_in osbput r in7 = bput
fits_in osfind_close r in7 = closed
fits_in osfind_open r in2 = opened
fits_in osfile r in6 = file
fits_in osgbpb r in8 = gbpb

-- what reply_ok says
record Facts (k : Kind) (r : Reply) (b t : List ℕ) : Type 0 where
  fits : Fits k r
  size : length b ≡ block_in k
  line : (has_line r || eqb (length t) 0) ≡ true
  clean : has_return t ≡ false

facts : (k : Kind) (r : Reply) (b t : List ℕ) → reply_ok k r b t ≡ true → Facts k r b t
unfolding reply_ok
facts k r b t h =
    let x = and_both (eqb (form_in r) (form_of k)) (eqb (length b) (block_in k) && ((has_line r || eqb (length t) 0) && not (has_return t))) h in
    let y = and_both (eqb (length b) (block_in k)) ((has_line r || eqb (length t) 0) && not (has_return t)) x.1 in
    let z = and_both (has_line r || eqb (length t) 0) (not (has_return t)) y.1 in
    record {
      fits = fits_in k r (subst (λ (n : ℕ). In n r) (eqb-true (form_in r) (form_of k) x.0) (in_form r));
      size = eqb-true (length b) (block_in k) y.0;
      line = z.0;
      clean = not-true (has_return t) z.1;
    }

-- a fixed reply behind its first byte
fixed_whole : (k : ℕ) (s : List ℕ) → length s ≡ k → (k ≡ 0 → ⊥) → Ends (fixed k) 0 s
fixed_whole k [] e h = absurd (h (sym e))
fixed_whole k (x ∷ s) e h = fixed_ends k 0 x s (omega (arith, e))

line_first : (x : ℕ) → bit x 0x80 ≡ false → shape_turn line 0 x ≡ more
unfolding shape_turn
line_first x h = simp h

line_none : (x : ℕ) → bit x 0x80 ≡ true → shape_turn line 0 x ≡ done
unfolding shape_turn
line_none x h = simp h

-- a reply that fits ends at its last byte
whole : {k : Kind} {r : Reply} (b t : List ℕ) → Fits k r → length b ≡ block_in k → has_return t ≡ false → length t ≤ 255 → (longest (shape_of k) ≡ 0 → ⊥)
    → Ends (shape_of k) 0 (reply_bytes r b t)
unfolding reply_bytes
whole b t (rdch {c = c} {a = a}) e n m h = fixed_ends 2 0 (carry_byte c) (a ∷ []) refl
whole b t (cli {k = k}) e n m h = fixed_ends 1 0 (ack_byte k) [] refl
whole b t (low {x = x}) e n m h = fixed_ends 1 0 x [] refl
whole b t (high {c = c} {y = y} {x = x}) e n m h = fixed_ends 3 0 (carry_byte c) (y ∷ x ∷ []) refl
whole b t (word {n = k}) e n m h = fixed_whole k b e h
whole b t gone e n m h = last 0 0xFF (line_none 0xFF refl)
whole b t typed e n m h = next 0 0x7F (t ++ (return ∷ [])) (line_first 0x7F refl) (line_ends 0 t n (omega (arith, m)))
whole b t (args {a = a}) e n m h = fixed_ends 5 0 a b (omega (arith, e))
whole b t (bget {c = c} {a = a}) e n m h = fixed_ends 2 0 (carry_byte c) (a ∷ []) refl
whole b t bput e n m h = fixed_ends 1 0 0x7F [] refl
whole b t closed e n m h = fixed_ends 1 0 0x7F [] refl
whole b t (opened {a = a}) e n m h = fixed_ends 1 0 a [] refl
whole b t (file {a = a}) e n m h = fixed_ends 17 0 a b (omega (arith, e))
whole b t (gbpb {c = c} {a = a}) e n m h = fixed_whole 15 (b ++ (carry_byte c ∷ a ∷ [])) (omega (arith, e, length-append b (carry_byte c ∷ a ∷ []))) (λ z. omega arith)

-- its bytes, read by the kind, are the reply
pub no_text : (t : List ℕ) → eqb (length t) 0 ≡ true → t ≡ []
no_text t h = zero_long t (eqb-true (length t) 0 h)

carry_back : (c : Bool) → flag (carry_byte c) ≡ c
carry_back true = refl
carry_back false = refl

ack_back : (k : Bool) → flag (ack_byte k) ≡ k
ack_back true = refl
ack_back false = refl

pub second_at : (b : List ℕ) (c a : ℕ) → length b ≡ 13 → at (b ++ (c ∷ a ∷ [])) 14 ≡ a
second_at b c a e =
    ap (λ (l : List ℕ). at l 14) (sym (append_assoc b (c ∷ []) (a ∷ [])))
    ∙ get_or_at (b ++ (c ∷ [])) a [] 0 14 (omega (arith, e, length-append b (c ∷ [])))

back : {k : Kind} {r : Reply} (b t : List ℕ) → Fits k r → length b ≡ block_in k → (has_line r || eqb (length t) 0) ≡ true → reply_read k (reply_bytes r b t) ≡ given r b t
unfolding reply_bytes reply_read
back b t (rdch {c = c}) e h = rw (zero_long b e, no_text t h, carry_back c)
back b t (cli {k = k}) e h = rw (zero_long b e, no_text t h, ack_back k)
back b t low e h = rw (zero_long b e, no_text t h)
back b t (high {c = c}) e h = rw (zero_long b e, no_text t h, carry_back c)
back b t word e h = rw (no_text t h)
back b t gone e h = rw (zero_long b e, no_text t h)
back b t typed e h = rw (zero_long b e, take_at t (return ∷ []) (suc (length (t ++ (return ∷ []))) - 2) (omega (arith, length-append t (return ∷ []))))
back b t args e h = rw (no_text t h)
back b t (bget {c = c}) e h = rw (zero_long b e, no_text t h, carry_back c)
back b t bput e h = rw (zero_long b e, no_text t h)
back b t closed e h = rw (zero_long b e, no_text t h)
back b t opened e h = rw (zero_long b e, no_text t h)
back b t file e h = rw (no_text t h)
back b t (gbpb {c = c} {a = a}) e h =
    rw (
      get_or_at b (carry_byte c) (a ∷ []) 0 13 e,
      second_at b (carry_byte c) a e,
      take_at b (carry_byte c ∷ a ∷ []) 13 e,
      carry_back c,
      no_text t h,
    )

-- a data byte of the reply, whatever follows
data_told : (f : Frame) (b : ℕ) (s : List ℕ) (t : List Input)
    → tells (live between f) (map raw (escaped (b ∷ s)) ++ t)
    ≡ fill (report need_more) (second b) ++ (report (meets f (datum b)).report ∷ tells (link_at between (meets f (datum b)).next) (map raw (escaped s) ++ t))
unfolding says
data_told f b s t =
    let l = map raw (escaped s) ++ t in
    let m = meets f (datum b) in
    layers_told between (holds f) (map raw (escaped (b ∷ s)) ++ t)
    ∙ ap (says (holds f)) (data_signs [] none b s t)
    ∙ underway_said f (second b) (token (datum b) ∷ signs between l)
    ∙ ap (λ (w : List Told). fill (report need_more) (second b) ++ (report m.report ∷ w)) (sym (layers_told between m.next l))

abbrev Reads : Kind → List ℕ → List ℕ → List Input → Type 0
Reads k got s t =
    tells (live between (frame (waiting k) got)) (map raw (escaped s) ++ t)
    ≡ fill (report need_more) (behind (map raw (escaped s))) ++ (report (reply (got ++ s)) ∷ tells fresh t)

-- The one induction over all kinds: bytes that end at their last, behind those so far, are read as the reply there.
reads : (k : Kind) (got : List ℕ) {n : ℕ} {s : List ℕ} (t : List Input) → n ≡ length got → Ends (shape_of k) n s → Reads k got s t
unfolding escaped meets
reads k got t e (last n b d) =
    let q : meets (frame (waiting k) got) (datum b) ≡ reply_turned k got b done = ap (reply_turned k got b) (ap (λ (i : ℕ). shape_turn (shape_of k) i b) (sym e) ∙ d) in
    data_told (frame (waiting k) got) b [] t
    ∙ ap (λ (m : Met). fill (report need_more) (second b) ++ (report m.report ∷ tells (link_at between m.next) t)) q
    ∙ ap (λ (l : List Input). fill (report need_more) l ++ (report (reply (got ++ (b ∷ []))) ∷ tells fresh t)) (sym (behind_data b [] ∙ append-nil (second b)))
reads k got t e (next n b [] d w) = elim w [ ]
reads k got t e (next n b (c ∷ s) d w) =
    let q : meets (frame (waiting k) got) (datum b) ≡ reply_turned k got b more = ap (reply_turned k got b) (ap (λ (i : ℕ). shape_turn (shape_of k) i b) (sym e) ∙ d) in
    let f = fill (report need_more) (second b) in
    let l = map raw (escaped (c ∷ s)) in
    let z = report (reply ((got ++ (b ∷ [])) ++ (c ∷ s))) ∷ tells fresh t in
    data_told (frame (waiting k) got) b (c ∷ s) t
    ∙ ap (λ (m : Met). f ++ (report m.report ∷ tells (link_at between m.next) (l ++ t))) q
    ∙ ap (λ (u : List Told). f ++ (report need_more ∷ u)) (reads k (got ++ (b ∷ [])) t (ap suc e ∙ sym (length_snoc got b)) w)
    ∙ ap (λ (u : List Told). f ++ (u ++ z)) (sym (fill_data (report need_more) c s))
    ∙ sym (append_assoc f (fill (report need_more) l) z)
    ∙ ap (λ (u : List Told). u ++ z) (sym (fill_append (report need_more) (second b) l))
    ∙ ap (λ (u : List Input). fill (report need_more) u ++ z) (sym (behind_data b (c ∷ s)))
    ∙ ap (λ (u : List ℕ). fill (report need_more) (behind (map raw (escaped (b ∷ c ∷ s)))) ++ (report (reply u) ∷ tells fresh t)) (append_assoc got (b ∷ []) (c ∷ s))

-- Writing then reading gives the reply, finished at its last byte, whatever follows; one without a byte is complete when begun.
pub record ReplyReadBack (k : Kind) (r : Reply) (b t : List ℕ) (i : List Input) : Type 0 where
  pub complete : longest (shape_of k) ≡ 0 → (begin fresh k ≡ begins complete fresh) × (reply_bytes r b t ≡ [])
  pub waits : (longest (shape_of k) ≡ 0 → ⊥) → begin fresh k ≡ begins begun (live between (frame (waiting k) []))
  pub told : (longest (shape_of k) ≡ 0 → ⊥) → tells (live between (frame (waiting k) [])) (map raw (escaped (reply_bytes r b t)) ++ i)
      ≡ fill (report need_more) (behind (map raw (escaped (reply_bytes r b t)))) ++ (report (reply (reply_bytes r b t)) ∷ tells fresh i)
  pub meaning : reply_read k (reply_bytes r b t) ≡ given r b t

begin_waits : (k : Kind) → (longest (shape_of k) ≡ 0 → ⊥) → begin fresh k ≡ begins begun (live between (frame (waiting k) []))
unfolding begin enters
begin_waits k h = simp (ne_eqb (longest (shape_of k)) 0 h)

begin_complete : (k : Kind) → longest (shape_of k) ≡ 0 → begin fresh k ≡ begins complete fresh
unfolding begin enters
begin_complete k h = simp (eq-eqb (longest (shape_of k)) 0 h)

no_bytes : {k : Kind} {r : Reply} (b t : List ℕ) → Fits k r → length b ≡ block_in k → longest (shape_of k) ≡ 0 → reply_bytes r b t ≡ []
unfolding reply_bytes
no_bytes b t rdch e h = absurd (omega arith)
no_bytes b t cli e h = absurd (omega arith)
no_bytes b t low e h = absurd (omega arith)
no_bytes b t high e h = absurd (omega arith)
no_bytes b t word e h = zero_long b (e ∙ h)
no_bytes b t gone e h = absurd (omega arith)
no_bytes b t typed e h = absurd (omega arith)
no_bytes b t args e h = absurd (omega arith)
no_bytes b t bget e h = absurd (omega arith)
no_bytes b t bput e h = absurd (omega arith)
no_bytes b t closed e h = absurd (omega arith)
no_bytes b t opened e h = absurd (omega arith)
no_bytes b t file e h = absurd (omega arith)
no_bytes b t gbpb e h = absurd (omega arith)

-- a reply that fits its kind: its bytes end at the last one, there is none where the kind has none, and they mean that reply
module _ (k : Kind) (r : Reply) (b t : List ℕ) (h : reply_ok k r b t ≡ true) where
  pub reply_whole : length t ≤ 255 → (longest (shape_of k) ≡ 0 → ⊥) → Ends (shape_of k) 0 (reply_bytes r b t)
  reply_whole m z = let f = facts k r b t h in whole b t f.fits f.size f.clean m z

  pub reply_none : longest (shape_of k) ≡ 0 → reply_bytes r b t ≡ []
  reply_none z = let f = facts k r b t h in no_bytes b t f.fits f.size z

  pub reply_back : reply_read k (reply_bytes r b t) ≡ given r b t
  reply_back = let f = facts k r b t h in back b t f.fits f.size f.line

pub written_then_read : (k : Kind) (r : Reply) (b t : List ℕ) (i : List Input) → reply_ok k r b t ≡ true → length t ≤ 255 → ReplyReadBack k r b t i
written_then_read k r b t i h m =
    record {
      complete = λ z. (begin_complete k z, reply_none k r b t h z);
      waits = begin_waits k;
      told = λ z. reads k [] i refl (reply_whole k r b t h m z);
      meaning = reply_back k r b t h;
    }
