-- What a caller reads off an answer: the claims of specs/Claims.antt hold for every call. Assumes nothing.
use mathlib.Core.Path.{◌≡◌, sym, refl, ap, subst}
use mathlib.Core.Bool.{Bool, true, false, false≢true, cond, ◌&&◌, ◌||◌}
use mathlib.Core.Logic.{◌⊎◌, inl, inr}
use mathlib.Core.List.{List}
use mathlib.Core.Option.{Option, none, some}
use Prim.Native.Nat.{ℕ, ◌+◌, ◌*◌, ◌/◌, ◌%◌, ◌≤◌, ◌<◌}
use native.Mathlib.Omega.{arith}
use lib.Dec.{eqb}
use lib.ListN.{length}
use borrow.Author.Tests.{eqb-true, ltb-true, leb-true, eq-eqb, lt-ltb, le-leb}
use Rattle.std.specs.Prelude.{Err, Ok, Result}
use Rattle.capture.specs.declared.Contents.{Contents}
use Rattle.isa.specs.Table.{bit, is_formed, ranges, in_range}
use Rattle.isa.specs.Refusals.{number, refusal_number, refusal_missing, first_failure, number_in, refusal_in, value_in}
use Rattle.isa.specs.Answers.{describe, decode_refusal}
use Rattle.isa.specs.Claims.{OnlyWord}
use Rattle.isa.specs.declared.Instruction.{Instruction}
use Rattle.isa.specs.declared.Instruction.TheVariants.{Zero}
use Rattle.isa.proofs.Tests.{every_all, all_every}
use Rattle.isa.proofs.Rows.{both}
use Rattle.isa.proofs.Lines.{source-register}
use Rattle.isa.specs.declared.Refusal.{Refusal}
use Rattle.isa.proofs.Sums.{plain_sum}
use Rattle.isa.proofs.Answers.{encode_out_of_range}
use Rattle.isa.proofs.Theorems.{decodes, encodes}
use Rattle.text.specs.Printing.{print_of}
use Rattle.text.proofs.Theorems.{prints, put_outcome, accepts, same, gives_12, known, unchanged}
use Rattle.text.specs.Spelling.{Text}
use Rattle.reader.specs.Answers.{read_of}
use Rattle.reader.proofs.Theorems.{reads}
use Rattle.machine.specs.Execution.{refusal_of}
use Rattle.machine.specs.Lists.{run_of}
use Rattle.machine.specs.Machine.{Machine}
use Rattle.machine.proofs.Tests.{outcome_back}
use Rattle.machine.proofs.Theorems.{executes, runs}
use Rattle.capture.specs.Format.{Capture, modes, bytes_of_capture}
use Rattle.capture.specs.Outcomes.{write_tests, written, write_of, Buffers, Reads}
use Rattle.capture.proofs.Captures.{modes-most}
use Rattle.capture.proofs.Theorems.{contents_small, refused_plain}
use Rattle.birdaghol.specs.Captures.{contents_number, packed_contents, CaptureReads}
use Rattle.birdaghol.specs.Calls.{answer, sized, operation, packed_result, encode_call, asked_predicated, asked_quarter}
use Rattle.birdaghol.specs.Fields.{numbers_in, describe_refusal}
use Rattle.birdaghol.specs.Claims.{Unpacks, DecodeUnpacks, DescribeUnpacks, PrintUnpacks, ReadUnpacks, ExecuteUnpacks, RunUnpacks, CaptureWriteUnpacks, CaptureReadUnpacks, ElementSize, Formed, PredicatedFits, QuarterFits}
use Rattle.birdaghol.specs.Claims.{EncodeAnswers, PredicatedAnswers, QuarterAnswers, ZeroAnswers, DescribeAnswers}
use Rattle.birdaghol.proofs.Packing.{number_fits, sum_below, sum_fits}
use Rattle.birdaghol.proofs.Fields.{describe_handed, Described, numbers_described, fields_numbers, fields_rest, fields_encoded}

-- ---- an answer whose sum takes a byte
unpacks : (v : ℕ) (o : Option Refusal) → refusal_missing o < 256 → Unpacks (answer v o) v (refusal_missing o) (refusal_number o)
unpacks v o h =
    let n = number_fits o in
    record { value_is = omega arith; missing_is = omega arith; refusal_is = omega arith }

pub decode_unpacks : (flags w : ℕ) → DecodeUnpacks flags w
decode_unpacks flags w = unpacks 0 (decode_refusal flags w) (sum_fits (decodes flags w).hands_back)

pub describe_unpacks : (flags w places : ℕ) → DescribeUnpacks flags w places
describe_unpacks flags w places = unpacks 0 (describe_refusal flags w places) (sum_fits (describe_handed flags w places))

pub print_unpacks : (flags w : ℕ) (room : List ℕ) → PrintUnpacks flags w (length room)
print_unpacks flags w room =
    let a = print_of flags w (length room) in
    unpacks (value_in a) (refusal_in a) (sum_fits (prints flags w room).hands_back)

pub read_unpacks : (flags : ℕ) (t : Text) → ReadUnpacks flags t
read_unpacks flags t =
    let r = reads flags t in
    unpacks (value_in (read_of flags t)) (refusal_in (read_of flags t))
    (sum_below (λ e. let (w, s, f) = (r.gives_8.0 e).1 in sum_fits (r.hands_back w s)) r.no_sum)

pub execute_unpacks : (m : Machine) (w : ℕ) → ExecuteUnpacks m w
execute_unpacks m w = let o = refusal_of m w in rw (outcome_back o) (unpacks 0 o (rw (outcome_back o) at (sum_fits (executes m w).hands_back)))

pub run_unpacks : (m : Machine) (ws : List ℕ) → RunUnpacks m ws
run_unpacks m ws = unpacks (run_of m ws).count (refusal_in (run_of m ws).outcome) (sum_fits (runs m ws).hands_back)

-- ---- capture files
pub capture_write_unpacks : (c : Capture) (room : ℕ) → CaptureWriteUnpacks c room
unfolding write_of
capture_write_unpacks c room = go (first_failure (write_tests c room)) (plain_sum (write_tests c room) refl)
  where
    go : (o : Option Refusal) → refusal_missing o ≡ 0 → Unpacks (packed_result (written o (length (bytes_of_capture c)))) (value_in (written o (length (bytes_of_capture c)))) 0 (number_in (written o (length (bytes_of_capture c))))
    go none e = unpacks (length (bytes_of_capture c)) none (omega arith)
    go (some r) e = subst (λ m. Unpacks (answer 0 (some r)) 0 m (number r)) e (unpacks 0 (some r) (rw e (omega arith)))

contents_unpack : (f m v words : ℕ) → f ≤ 15 → m ≤ 3 → v ≤ 256
    → let n = words * 65536 + v * 64 + m * 16 + f in (n % 16 ≡ f) × (n / 16 % 4 ≡ m) × (n / 64 % 1024 ≡ v) × (n / 65536 ≡ words)
contents_unpack f m v words a b c = (omega arith, omega arith, omega arith, omega arith)

pub capture_read_unpacks : (file : List ℕ) (before after : Buffers) (n : ℕ) (h : CaptureReads file before n after) → CaptureReadUnpacks n h.reading
capture_read_unpacks file before after n h = go h.reading h.reads h.is
  where
    go : (r : Result Contents Refusal) → Reads file before r after → n ≡ packed_contents r → CaptureReadUnpacks n r
    go (Ok c) q e =
        let b = c.bench in
        let words = c.words in
        let (f, v, w) = contents_small q in
        let (x, y, z, u) = contents_unpack b.flags (modes b.sm b.za) b.vb words f (modes-most b.sm b.za) v in
        (subst (λ n. Unpacks n (contents_number b words) 0 0) (sym e) (unpacks (contents_number b words) none (omega arith)), record { flags_is = x; modes_is = y; vb_is = z; words_is = u })
    go (Err r) q e =
        let m = refused_plain q in
        subst (λ n. Unpacks n 0 0 (number r)) (sym e) (subst (λ m. Unpacks (answer 0 (some r)) 0 m (number r)) m (unpacks 0 (some r) (rw m (omega arith))))

-- ---- encode
abbrev size? : ℕ → ℕ → Bool
size? bytes products = (eqb bytes 4 || eqb bytes 8) && (eqb products 2 || eqb products 4)

one_of : (n a b : ℕ) → eqb n a || eqb n b ≡ true → (n ≡ a) ⊎ (n ≡ b)
one_of n a b h = go (eqb n a) refl h
  where
    go : (t : Bool) → eqb n a ≡ t → t || eqb n b ≡ true → (n ≡ a) ⊎ (n ≡ b)
    go true e h = inl (eqb-true n a e)
    go false e h = inr (eqb-true n b h)

tiles_of_size : (bytes : ℕ) → ElementSize bytes → cond (eqb bytes 8) 8 4 ≡ bytes
tiles_of_size bytes (inl e) = rw e
tiles_of_size bytes (inr e) = rw e

one_sign : {a b : Bool} → eqb (bit a) (bit b) ≡ true → a ≡ b
one_sign {a} {b} e = go a b (eqb-true (bit a) (bit b) e)
  where
    go : (a b : Bool) → bit a ≡ bit b → a ≡ b
    go true true q = refl
    go true false q = absurd (omega arith)
    go false true q = absurd (omega arith)
    go false false q = refl

-- sizes, numbers of products and signs that pass are those that fit
module _ (bytes products : ℕ) (u0 u1 subtract : Bool) where
  abbrev formed? : Bool
  formed? = is_formed (operation bytes products u0 u1 subtract)

  formed_passes : ElementSize bytes → Formed bytes products u0 u1 → (size? bytes products ≡ true) × (formed? ≡ true)
  formed_passes (inl b) (inl p) = (rw (b, p), rw p)
  formed_passes (inr b) (inl p) = (rw (b, p), rw p)
  formed_passes s (inr (p, b, e)) = (rw (b, p), rw (b, p, e) (eq-eqb (bit u1) (bit u1) refl))

  formed_passed : size? bytes products ≡ true → formed? ≡ true → ElementSize bytes × Formed bytes products u0 u1
  formed_passed s f =
      let (b, p) = both (eqb bytes 4 || eqb bytes 8) (eqb products 2 || eqb products 4) s in
      let size = one_of bytes 4 8 b in
      (size, go size (one_of products 2 4 p))
    where
      go : ElementSize bytes → (products ≡ 2) ⊎ (products ≡ 4) → Formed bytes products u0 u1
      go b (inr p) = inl p
      go (inl b) (inl p) = inr (p, b, one_sign (rw (b, p) at f))
      go (inr b) (inl p) = absurd (false≢true (rw (b, p) at f))

-- an encode whose tests pass exactly where its arguments fit
module _ (bytes products : ℕ) (i : Instruction) {Fits : Type 0}
    (passes : Fits → (size? bytes products ≡ true) × (in_range i ≡ true)) (passed : size? bytes products ≡ true → in_range i ≡ true → Fits) where
  fitting : Fits → (w : ℕ) × Unpacks (encode_call (sized bytes products i)) w 0 0 × OnlyWord i w
  fitting f =
      let (s, r) = passes f in
      let (w, e, o) = (encodes i).word r in
      (w, subst (λ a. Unpacks a w 0 0) (sym (rw s (ap packed_result e))) (unpacks w none (omega arith)), o)

  unfitting : (Fits → ⊥) → (s r : Bool) → size? bytes products ≡ s → in_range i ≡ r → encode_call (cond s (some i) none) ≡ 11
  unfitting n false r p q = refl
  unfitting n true false p q = ap packed_result (encode_out_of_range i q)
  unfitting n true true p q = absurd (n (passed p q))

  answers : EncodeAnswers (encode_call (sized bytes products i)) i Fits
  answers =
      record {
        word = fitting;
        gives_11 = (λ e f. let u = (fitting f).1.refusal_is in omega arith, λ n. unfitting n (size? bytes products) (in_range i) refl refl);
      }

module _ (bytes products : ℕ) (u0 u1 subtract : Bool) (tile pn pm zn zm : ℕ) where
  abbrev predicated : Instruction
  predicated = asked_predicated bytes products u0 u1 subtract tile pn pm zn zm

  predicated_passes : PredicatedFits bytes products u0 u1 tile pn pm zn zm → (size? bytes products ≡ true) × (in_range predicated ≡ true)
  predicated_passes f =
      let t = tiles_of_size bytes f.size in
      let (s, o) = formed_passes bytes products u0 u1 subtract f.size f.formed in
      (s, all_every (ranges predicated) (o, omega (arith, lt-ltb)))

  predicated_passed : size? bytes products ≡ true → in_range predicated ≡ true → PredicatedFits bytes products u0 u1 tile pn pm zn zm
  predicated_passed s r =
      let t = every_all (ranges predicated) r in
      let (e, o) = formed_passed bytes products u0 u1 subtract s t.0 in
      let a = rw (tiles_of_size bytes e) at t.1 in
      record {
        size = e;
        formed = o;
        tile_below = ltb-true _ _ a.0;
        pn_below = ltb-true _ _ a.1.0;
        pm_below = ltb-true _ _ a.1.1.0;
        zn_below = ltb-true _ _ a.1.1.1.0;
        zm_below = ltb-true _ _ a.1.1.1.1.0;
      }

  pub predicated-answers : PredicatedAnswers bytes products u0 u1 subtract tile pn pm zn zm
  predicated-answers = answers bytes products predicated predicated_passes predicated_passed

module _ (bytes products : ℕ) (u0 u1 subtract : Bool) (tile first : ℕ) (first_pair : Bool) (second : ℕ) (second_pair : Bool) where
  abbrev quarter : Instruction
  quarter = asked_quarter bytes products u0 u1 subtract tile first first_pair second second_pair

  quarter_passes : QuarterFits bytes products u0 u1 tile first second → (size? bytes products ≡ true) × (in_range quarter ≡ true)
  quarter_passes f =
      let (s, o) = formed_passes bytes products u0 u1 subtract f.size f.formed in (
        s,
        all_every (ranges quarter)
            (o, rw (tiles_of_size bytes f.size, source-register first_pair first, source-register second_pair second) (omega (arith, lt-ltb, le-leb, eq-eqb))),
      )

  quarter_passed : size? bytes products ≡ true → in_range quarter ≡ true → QuarterFits bytes products u0 u1 tile first second
  quarter_passed s r =
      let t = every_all (ranges quarter) r in
      let (e, o) = formed_passed bytes products u0 u1 subtract s t.0 in
      let a = rw (tiles_of_size bytes e, source-register first_pair first, source-register second_pair second) at t.1 in
      record {
        size = e;
        formed = o;
        tile_below = ltb-true _ _ a.0;
        first_even = eqb-true _ _ a.1.0;
        first_most = leb-true _ _ a.1.1.0;
        second_even = eqb-true _ _ a.1.1.1.0;
        second_least = leb-true _ _ a.1.1.1.1.0;
        second_most = leb-true _ _ a.1.1.1.1.1.0;
      }

  pub quarter-answers : QuarterAnswers bytes products u0 u1 subtract tile first first_pair second second_pair
  quarter-answers = answers bytes products quarter quarter_passes quarter_passed

pub zero-answers : (mask : ℕ) → ZeroAnswers mask
zero-answers mask =
    answers 4 4 (Zero mask)
    (λ h. (refl, all_every (ranges (Zero mask)) (lt-ltb mask 256 h, tt)))
    (λ s r. ltb-true mask 256 (every_all (ranges (Zero mask)) r).0)

-- ---- describe
pub describe-answers : (flags w : ℕ) (fields : List ℕ) → DescribeAnswers flags w fields
describe-answers flags w fields =
    let t = numbers_in (describe w) in
    let o = put_outcome (Described w t) flags w t fields (numbers_described flags w) in
    record {
      accepts = (
        λ e. let (a, b) = (accepts o).0 e in let k = (known o a).count in (a, omega arith),
        λ c. let k = (known o c.0).count in (accepts o).1 (c.0, omega arith),
      );
      gives_1 = same 1 (omega arith) (omega arith) o;
      gives_7 = same 7 (omega arith) (omega arith) o;
      gives_8 = same 8 (omega arith) (omega arith) o;
      hands_back = describe_handed flags w (length fields);
      gives_12 = (
        λ e. let (a, b) = (gives_12 o).0 e in let k = (known o a).count in (a, omega arith),
        λ c. let k = (known o c.0).count in (gives_12 o).1 (c.0, omega arith),
      );
      refused = λ z. (unchanged o z).0;
      numbers = fields_numbers o;
      rest = fields_rest o;
      encoded = λ l e. subst (λ a. Unpacks a w 0 0) (sym (fields_encoded o l e)) (unpacks w none (omega arith));
    }
