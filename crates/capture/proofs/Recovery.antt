-- What read answers, by what was found in the file. Assumes nothing.
use mathlib.Core.Path.{◌≡◌, refl, sym, ap, ◌∙◌}
use mathlib.Core.Bool.{Bool, true, false}
use mathlib.Core.List.{List, ◌++◌}
use Prim.Native.Nat.{ℕ, ◌≤◌, ◌<◌}
use native.Mathlib.Omega.{arith}
use lib.ListN.{length, drop}
use lib.Seq.{drop-cons}
use borrow.Author.Tests.{leb-true, le-leb}
use Rattle.std.specs.Prelude.{Err, Ok}
use Rattle.isa.specs.declared.Refusal.TheVariants.{Room, Version, Format}
use Rattle.isa.proofs.Rows.{both}
use Rattle.storage.specs.Sizes.{z_size, p_size, za_size}
use Rattle.storage.specs.Bytes.{at}
use Rattle.machine.specs.declared.Bench.{Bench}
use Rattle.capture.specs.Format.{version, Capture, NoCapture, bytes_of_capture}
use Rattle.capture.specs.Outcomes.{Buffers, buffers, Fits, OtherVersion, Reads}
use Rattle.capture.specs.Outcomes.Reads.{contents, another, malformed, too_long}
use Rattle.capture.specs.Steps.{words_at, bytes_at, z_at, p_at, za_at, capture_at, Captured, long_enough}
use Rattle.capture.proofs.Numbers.{length-words_at}

-- ---- the first byte
pub read_empty : (file : List ℕ) (b : Buffers) → length file ≡ 0 → Reads file b (Err Format) b
unfolding bytes_of_capture
read_empty file b h =
    malformed (λ o. omega (arith, ap length o.is)) (record { never = λ c q. omega (arith, ap length q.bytes) }) refl refl

pub read_another : (file : List ℕ) (b : Buffers) → 0 < length file → (at file 0 ≡ version → ⊥) → Reads file b (Err Version) b
read_another file b h d =
    another (record { first = at file 0; rest = drop 1 file; is = drop-cons file 0 0 h; other = d }) refl refl

pub this_version : (file : List ℕ) → at file 0 ≡ version → OtherVersion file → ⊥
this_version file e o = o.other (sym (ap (λ (l : List ℕ). at l 0) o.is) ∙ e)

pub read_nothing : (file : List ℕ) (b : Buffers) → at file 0 ≡ version → NoCapture file → Reads file b (Err Format) b
read_nothing file b v q = malformed (this_version file v) q refl refl

-- ---- whether the contents fit
pub record Enough (n vb words z p za : ℕ) : Type 0 where
  pub for_words : n ≤ words
  pub for_z : z_size vb ≤ z
  pub for_p : p_size vb ≤ p
  pub for_za : za_size vb ≤ za

pub enough : {t : Bool} (n vb words z p za : ℕ) → t ≡ long_enough n vb words z p za → t ≡ true → Enough n vb words z p za
enough n vb words z p za e g = parts (sym e ∙ g)
  where
    parts : long_enough n vb words z p za ≡ true → Enough n vb words z p za
    parts h =
        let (h1, e) = both _ _ h in
        let (h2, d) = both _ _ h1 in
        let (a, b) = both _ _ h2 in
        record { for_words = leb-true _ _ a; for_z = leb-true _ _ b; for_p = leb-true _ _ d; for_za = leb-true _ _ e }

enough_back : (n vb words z p za : ℕ) → Enough n vb words z p za → long_enough n vb words z p za ≡ true
enough_back n vb words z p za h =
    rw (le-leb n words h.for_words, le-leb (z_size vb) z h.for_z, le-leb (p_size vb) p h.for_p, le-leb (za_size vb) za h.for_za)

module _ (file : List ℕ) (bench : Bench) (n : ℕ) (words z p za : List ℕ) (q : Captured file bench n) where
  abbrev c : Capture
  c = capture_at file bench n

  abbrev vb : ℕ
  vb = bench.vb

  pub read_short : {t : Bool} → t ≡ long_enough n vb (length words) (length z) (length p) (length za) → t ≡ false → Reads file (buffers words z p za) (Err Room) (buffers words z p za)
  read_short {t} h g = too_long c q.holds no_room refl refl
    where
      no_room : Fits c (buffers words z p za) → ⊥
      no_room f =
          let l = q.holds.lawful.passes in
          let e : long_enough n vb (length words) (length z) (length p) (length za) ≡ true =
          enough_back n vb (length words) (length z) (length p) (length za)
          (record {
            for_words = rw (length-words_at file 13 n) at f.words_fit;
            for_z = rw l.z_sized at f.z_fit;
            for_p = rw l.p_sized at f.p_fit;
            for_za = rw l.za_sized at f.za_fit;
          }) in
          let r : true ≡ false = sym e ∙ sym h ∙ g in
          let y : ◌≡◌ {A = ℕ} 0 1 = cc in
          omega arith

  pub read_done : Enough n vb (length words) (length z) (length p) (length za) → (words' z' p' za' : List ℕ)
      → words' ≡ words_at file 13 n ++ drop n words
      → z' ≡ bytes_at file (z_at n) (z_size vb) ++ drop (z_size vb) z
      → p' ≡ bytes_at file (p_at n vb) (p_size vb) ++ drop (p_size vb) p
      → za' ≡ bytes_at file (za_at n vb) (za_size vb) ++ drop (za_size vb) za
      → Reads file (buffers words z p za) (Ok (record { bench = bench; words = n })) (buffers words' z' p' za')
  read_done h words' z' p' za' ew ez ep ea =
      let l = q.holds.lawful.passes in
      let m = length-words_at file 13 n in
      contents c q.holds
      (record { words_fit = rw m h.for_words; z_fit = rw l.z_sized h.for_z; p_fit = rw l.p_sized h.for_p; za_fit = rw l.za_sized h.for_za })
      (rw m)
      (rw (ew, ez, ep, ea, m, l.z_sized, l.p_sized, l.za_sized))
