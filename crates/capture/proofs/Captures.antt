-- Legal captures and their bytes: no two have the same, and a file of five parts that pass the tests is one. Assumes nothing.
use mathlib.Core.Path.{◌≡◌, refl, sym, ap, ap₂, subst, ◌∙◌}
use mathlib.Core.Bool.{Bool, true, false}
use mathlib.Core.List.{List, [], ◌∷◌}
use mathlib.Core.Option.{none, some}
use Prim.Native.Nat.{ℕ, zero, suc, ◌+◌, ◌*◌, ◌/◌, ◌%◌, ◌≤◌, ◌<◌}
use native.Mathlib.Nat.{mul-le-mul}
use native.Mathlib.Omega.{arith}
use lib.Dec.{eqb, leb}
use lib.ListN.{length, take, drop, length-append}
use lib.Seq.{drop-cons, get_or-take, get_or-drop}
use Rattle.isa.specs.Refusals.{first_failure}
use Rattle.isa.specs.declared.Refusal.{Refusal}
use Rattle.storage.specs.Sizes.{z_size, p_size, za_size}
use Rattle.storage.specs.Bytes.{at}
use Rattle.storage.proofs.Sizes.{legal-length}
use Rattle.machine.specs.declared.Bench.{Bench}
use Rattle.machine.specs.Lists.{most_words, start_tests}
use Rattle.machine.specs.Claims.{Passes}
use Rattle.machine.proofs.Tests.{bench_passes}
use Rattle.machine.proofs.Numbers.{start_passes, start_passed}
use Rattle.capture.specs.Format.{version, Capture, capture_of, modes, head_of, word_bytes, parts_of, joined, Short, bytes_of_capture, Below, Legal, Holds, NoCapture, number2}
use Rattle.capture.specs.Steps.{words_at, bytes_at, PartAt, NoParts, FiveParts, z_at, p_at, za_at, bench_at, capture_at, Captured}
use Rattle.capture.proofs.Numbers.{below_drop, below_take, length_bytes_at, big2-number, drop_four, length_word_bytes, length-words_at, below_words_at, word_bytes_at, word_bytes_same}
use Rattle.capture.proofs.Partition.{length_part, joined_same, five, five_joined, five_short}

-- ---- how large contents are that tests 1 to 5 pass
pub record Bounds (vb z p za : ℕ) : Type 0 where
  pub vb_most : vb ≤ 256
  pub z_most : z ≤ 8192
  pub p_most : p ≤ 512
  pub za_most : za ≤ 65536

pub bounds : (b : Bench) (z p za : ℕ) → Passes b z p za → Bounds b.vb z p za
bounds b z p za s =
    let l = legal-length b.vb s.length_legal in
    record {
      vb_most = l.most;
      z_most = omega (arith, s.z_sized, l.most);
      p_most = omega (arith, s.p_sized, l.most);
      za_most = omega (arith, s.za_sized, mul-le-mul l.most l.most);
    }

-- tests 1 to 6, by what they ask
pub begun : (b : Bench) (z p za n : ℕ) → first_failure (start_tests b z p za n) ≡ none → Passes b z p za × (n ≤ most_words)
begun b z p za n h = let (q, m) = start_passed b z p za n h in (bench_passes b z p za q, m)

module _ (c : Capture) where
  pub short_parts : Legal c → Short (parts_of c)
  short_parts l =
      let b = bounds _ _ _ _ l.passes in (
        omega arith,
        (
          rw (length_word_bytes c.words) (omega (arith, l.words_most)),
          (omega (arith, b.z_most), (omega (arith, b.p_most), (omega (arith, b.za_most), tt))),
        ),
      )

  pub length_capture : length (bytes_of_capture c) ≡ 25 + 4 * length c.words + length c.z + length c.p + length c.za
  unfolding bytes_of_capture joined
  length_capture = simp (length-append, length_part, length_word_bytes) (omega arith)

-- ---- what a byte of modes says
modes_say : (s o : Bool) → (eqb (modes s o % 2) 1 ≡ s) × (leb 2 (modes s o) ≡ o)
modes_say true true = (refl, refl)
modes_say true false = (refl, refl)
modes_say false true = (refl, refl)
modes_say false false = (refl, refl)

modes-same : (s t u v : Bool) → modes s t ≡ modes u v → (s ≡ u) × (t ≡ v)
modes-same s t u v e =
    (sym (modes_say s t).0 ∙ ap (λ m. eqb (m % 2) 1) e ∙ (modes_say u v).0, sym (modes_say s t).1 ∙ ap (leb 2) e ∙ (modes_say u v).1)

pub modes-most : (s o : Bool) → modes s o ≤ 3
modes-most true true = omega arith
modes-most true false = omega arith
modes-most false true = omega arith
modes-most false false = omega arith

modes_back : (m : ℕ) → m ≤ 3 → modes (eqb (m % 2) 1) (leb 2 m) ≡ m
modes_back zero h = refl
modes_back (suc zero) h = refl
modes_back (suc (suc zero)) h = refl
modes_back (suc (suc (suc zero))) h = refl
modes_back (suc (suc (suc (suc m)))) h = absurd (omega arith)

-- a vector length from its two bytes
pub vb_back : (v : ℕ) → v ≤ 256 → v / 256 % 256 * 256 + v % 256 ≡ v
vb_back v l = omega arith

-- ---- no two captures have the same bytes
abbrev pub nth : List (List ℕ) → ℕ → List ℕ
nth [] n = []
nth (t ∷ ts) zero = t
nth (t ∷ ts) (suc n) = nth ts n

pub made : {b b' : Bench} {w w' z z' p p' za za' : List ℕ} → b ≡ b' → w ≡ w' → z ≡ z' → p ≡ p' → za ≡ za' → capture_of b w z p za ≡ capture_of b' w' z' p' za'
made b w z p za = rw (b, w, z, p, za)

bench_made : {f f' : ℕ} {s s' o o' : Bool} {v v' : ℕ} → f ≡ f' → s ≡ s' → o ≡ o' → v ≡ v'
    → ◌≡◌ {A = Bench} (record { flags = f; sm = s; za = o; vb = v }) (record { flags = f'; sm = s'; za = o'; vb = v' })
bench_made f s o v = rw (f, s, o, v)

same_head : (b b' : Bench) → b.vb ≤ 256 → b'.vb ≤ 256 → head_of b ≡ head_of b' → b ≡ b'
same_head b b' l k h =
    let f : b.flags ≡ b'.flags = ap (λ t. at t 0) h in
    let (s, o) = modes-same b.sm b.za b'.sm b'.za (ap (λ t. at t 1) h) in
    let v1 : b.vb / 256 % 256 ≡ b'.vb / 256 % 256 = ap (λ t. at t 2) h in
    let v0 : b.vb % 256 ≡ b'.vb % 256 = ap (λ t. at t 3) h in
    let v : b.vb ≡ b'.vb = omega arith in
    bench_made f s o v

same-legal : (c d : Capture) → Legal c → Legal d → parts_of c ≡ parts_of d → c ≡ d
same-legal c d l k e =
    let b = same_head c.bench d.bench (bounds _ _ _ _ l.passes).vb_most (bounds _ _ _ _ k.passes).vb_most (ap (λ ts. nth ts 0) e) in
    let w : c.words ≡ d.words = word_bytes_same c.words d.words l.words_fit k.words_fit (ap (λ ts. nth ts 1) e) in
    let z : c.z ≡ d.z = ap (λ ts. nth ts 2) e in
    let p : c.p ≡ d.p = ap (λ ts. nth ts 3) e in
    let za : c.za ≡ d.za = ap (λ ts. nth ts 4) e in
    made b w z p za

pub one_capture : (c d : Capture) → Legal c → Legal d → bytes_of_capture c ≡ bytes_of_capture d → c ≡ d
unfolding bytes_of_capture
one_capture c d l k e = same-legal c d l k (joined_same (parts_of c) (parts_of d) refl (short_parts c l) (short_parts d k) (ap (drop 1) e))

-- ---- a file that is no sequence of five parts is no capture
pub no_parts : (file : List ℕ) → NoParts file 1 5 → NoCapture file
unfolding bytes_of_capture
no_parts file n = record { never = λ c h. n.never (parts_of c) refl (short_parts c h.lawful) (ap (drop 1) h.bytes) }

-- ---- what the five parts of a capture are
record Matches (file : List ℕ) (k : Capture) (a b c d e : ℕ) : Type 0 where
  pub head_size : a ≡ 4
  pub words_size : b ≡ 4 * length k.words
  pub z_sized : c ≡ length k.z
  pub p_sized : d ≡ length k.p
  pub za_sized : e ≡ length k.za
  pub modes_byte : at file 6 ≡ modes k.bench.sm k.bench.za
  pub bench : bench_at file ≡ k.bench

module _ (file : List ℕ) (a b c d e : ℕ) (f : FiveParts file a b c d e) where
  matched : (k : Capture) → Holds file k → Matches file k a b c d e
  unfolding bytes_of_capture
  matched k h =
      let v = head 2 (omega arith) in
      let w = head 3 (omega arith) in
      let m = head 1 (omega arith) in
      let (s, o) = modes_say k.bench.sm k.bench.za in
      record {
        head_size = size 1 a _ f.first first;
        words_size = size (5 + a) b _ f.second (ap (λ ts. nth ts 1) same) ∙ length_word_bytes k.words;
        z_sized = size (5 + a + 4 + b) c _ f.third (ap (λ ts. nth ts 2) same);
        p_sized = size (5 + a + 4 + b + 4 + c) d _ f.fourth (ap (λ ts. nth ts 3) same);
        za_sized = size (5 + a + 4 + b + 4 + c + 4 + d) e _ f.fifth (ap (λ ts. nth ts 4) same);
        modes_byte = m;
        bench =
            bench_made (head 0 (omega arith)) (ap (λ n. eqb (n % 2) 1) m ∙ s) (ap (leb 2) m ∙ o)
            (rw (v, w) (vb_back k.bench.vb (bounds _ _ _ _ h.lawful.passes).vb_most));
      }
    where
      same : five file a b c d e ≡ parts_of k
      same = joined_same (five file a b c d e) (parts_of k) refl (five_short file a b c d e f) (short_parts k h.lawful) (sym (five_joined file a b c d e f) ∙ ap (drop 1) h.bytes)

      first : bytes_at file 5 a ≡ head_of k.bench
      first = ap (λ ts. nth ts 0) same

      size : (i n : ℕ) (t : List ℕ) → PartAt file i n → bytes_at file (i + 4) n ≡ t → n ≡ length t
      size i n t q e = sym (length_bytes_at file (i + 4) n q.within) ∙ ap length e

      head : (j : ℕ) → j < 4 → at file (5 + j) ≡ at (head_of k.bench) j
      head j l =
          let four : a ≡ 4 = size 1 a _ f.first first in
          sym (get_or-drop 5 file j 0) ∙ sym (get_or-take a (drop 5 file) j 0 (omega arith)) ∙ ap (λ (t : List ℕ). at t j) first

  pub not_four : (a ≡ 4 → ⊥) → NoCapture file
  not_four h = record { never = λ k q. h (matched k q).head_size }

  pub not-words : (b % 4 ≡ 0 → ⊥) → NoCapture file
  not-words h = record { never = λ k q. let m = (matched k q).words_size in h (omega arith) }

  pub not-modes : 3 < at file 6 → NoCapture file
  not-modes h = record { never = λ k q. omega (arith, (matched k q).modes_byte, modes-most k.bench.sm k.bench.za) }

  pub not_begun : (bench : Bench) (r : Refusal) → bench ≡ bench_at file → first_failure (start_tests bench c d e (b / 4)) ≡ some r → NoCapture file
  not_begun bench r i h = record { never = λ k q. let z : ◌≡◌ {A = ℕ} 0 1 = cc (passes k q) in omega arith }
    where
      same_tests : {b b' : Bench} {z z' p p' za za' n n' : ℕ} → b ≡ b' → z ≡ z' → p ≡ p' → za ≡ za' → n ≡ n' → first_failure (start_tests b z p za n) ≡ first_failure (start_tests b' z' p' za' n')
      same_tests b z p za n = rw (b, z, p, za, n)

      passes : (k : Capture) → Holds file k → first_failure (start_tests bench c d e (b / 4)) ≡ none
      passes k q =
          let m = matched k q in
          let w : b / 4 ≡ length k.words = omega (arith, m.words_size) in
          same_tests (i ∙ m.bench) m.z_sized m.p_sized m.za_sized w ∙ start_passes _ _ _ _ _ q.lawful.passes q.lawful.words_most

  module _ (n : ℕ) (bytes : Below 256 file) (front : at file 0 ≡ version) (four : a ≡ 4) (words : b ≡ 4 * n) (low : at file 6 ≤ 3) (passes : Passes (bench_at file) c d e) (most : n ≤ most_words) where
    abbrev vb : ℕ
    vb = number2 file 7

    abbrev k : Capture
    k = capture_at file (bench_at file) n

    z_within : z_at n + z_size vb ≤ length file
    z_within = omega (arith, f.third.within, passes.z_sized, four, words)

    p_within : p_at n vb + p_size vb ≤ length file
    p_within = omega (arith, f.fourth.within, passes.z_sized, passes.p_sized, four, words)

    za_within : za_at n vb + za_size vb ≤ length file
    za_within = omega (arith, f.fifth.within, passes.z_sized, passes.p_sized, passes.za_sized, four, words)

    fit : (i n : ℕ) → Below 256 (bytes_at file i n)
    fit i n = below_take 256 n (drop i file) (omega arith) (below_drop 256 i file bytes)

    lawful : Legal k
    lawful =
        record {
          passes = record {
            flags = passes.flags;
            length_legal = passes.length_legal;
            z_sized = length_bytes_at file (z_at n) (z_size vb) z_within;
            p_sized = length_bytes_at file (p_at n vb) (p_size vb) p_within;
            za_sized = length_bytes_at file (za_at n vb) (za_size vb) za_within;
          };
          words_most = rw (length-words_at file 13 n) most;
          words_fit = below_words_at file 13 n bytes;
          z_fit = fit (z_at n) (z_size vb);
          p_fit = fit (p_at n vb) (p_size vb);
          za_fit = fit (za_at n vb) (za_size vb);
        }

    head_part : bytes_at file 5 a ≡ head_of (bench_at file)
    head_part =
        rw (four, big2-number (at file 7) (at file 8) (bytes 7) (bytes 8), modes_back (at file 6) low)
        (ap (take 4) (drop_four file 5 (omega (arith, f.first.within, four))))

    words-part : bytes_at file (5 + a + 4) b ≡ word_bytes (words_at file 13 n)
    words-part = rw (four, words) (sym (word_bytes_at file 13 n bytes (omega (arith, f.second.within, four, words))))

    parts : five file a b c d e ≡ parts_of k
    parts =
        let z-place : 5 + a + 4 + b + 4 ≡ z_at n = omega (arith, four, words) in
        let p_place : 5 + a + 4 + b + 4 + c + 4 ≡ p_at n vb = omega (arith, four, words, passes.z_sized) in
        let za-place : 5 + a + 4 + b + 4 + c + 4 + d + 4 ≡ za_at n vb = omega (arith, four, words, passes.z_sized, passes.p_sized) in
        five_eq head_part words-part
        (ap₂ (λ i j. bytes_at file i j) z-place passes.z_sized)
        (ap₂ (λ i j. bytes_at file i j) p_place passes.p_sized)
        (ap₂ (λ i j. bytes_at file i j) za-place passes.za_sized)
      where
        five_eq : {t t' u u' v v' w w' x x' : List ℕ} → t ≡ t' → u ≡ u' → v ≡ v' → w ≡ w' → x ≡ x' → ◌≡◌ {A = List (List ℕ)} (t ∷ u ∷ v ∷ w ∷ x ∷ []) (t' ∷ u' ∷ v' ∷ w' ∷ x' ∷ [])
        five_eq p q r s t = cc

    pub found : Captured file (bench_at file) n
    unfolding bytes_of_capture
    found =
        let g = bounds _ _ _ _ passes in
        record {
          holds = record {
            lawful = lawful;
            bytes =
                drop-cons file 0 0 (omega (arith, f.first.within))
                ∙ ap₂ ◌∷◌ front (five_joined file a b c d e f ∙ ap joined parts);
          };
          size = omega (arith, f.ends, passes.z_sized, passes.p_sized, passes.za_sized, four, words);
          words_most = most;
          vb_most = g.vb_most;
          za_most = omega (arith, g.za_most, passes.za_sized);
        }

  pub found_begun : (bench : Bench) → bench ≡ bench_at file → Below 256 file → at file 0 ≡ version → a ≡ 4 → b % 4 ≡ 0 → at file 6 ≤ 3
      → first_failure (start_tests bench c d e (b / 4)) ≡ none → Captured file bench (b / 4)
  found_begun bench i bytes front four words low h =
      let w : b ≡ 4 * (b / 4) = omega (arith, words) in
      let (p, m) = begun (bench_at file) c d e (b / 4) (subst (λ (x : Bench). first_failure (start_tests x c d e (b / 4)) ≡ none) i h) in
      subst (λ (x : Bench). Captured file x (b / 4)) (sym i) (found (b / 4) bytes front four w low p m)
