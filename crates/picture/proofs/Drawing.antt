-- Pixels put one behind the other, and what comes of a file by what was read from it. Assumes nothing.
use mathlib.Core.Path.{◌≡◌, refl, sym, ap, subst, ◌∙◌}
use mathlib.Core.List.{List, [], ◌∷◌, ◌++◌}
use Prim.Native.Nat.{ℕ, suc, ◌+◌, ◌*◌, ◌≤◌, ◌<◌}
use native.Mathlib.Nat.{mul-le-mul}
use native.Mathlib.Omega.{arith}
use lib.ListN.{length, take, drop, length-append}
use lib.Seq.{sets, take-suc, length-take-le}
use Rattle.std.specs.Prelude.{Result, Ok}
use Rattle.capture.specs.declared.Contents.{Contents}
use Rattle.isa.specs.declared.Refusal.{Refusal}
use Rattle.storage.specs.Bytes.{at}
use Rattle.storage.proofs.Bytes.{sets_append}
use Rattle.storage.specs.Sizes.{za_size}
use Rattle.machine.specs.declared.Bench.{Bench}
use Rattle.capture.specs.Format.{Capture}
use Rattle.capture.specs.Outcomes.{over, Buffers, Reads}
use Rattle.capture.specs.Claims.{in_buffers}
use Rattle.capture.proofs.Writing.{put_over}
use Rattle.capture.proofs.Theorems.{read_then_write, There, contents_there}
use Rattle.picture.specs.Images.{pixel, pixels, header, image, longest_image, Shows}
use Rattle.picture.specs.Images.Shows.{drawn}

length-pixels : (q : ℕ) (vs : List ℕ) → length (pixels q vs) ≡ 4 * length vs
unfolding pixels
length-pixels q [] = refl
length-pixels q (v ∷ vs) = let e = length-pixels (suc q) vs in omega arith

pixels_snoc : (q : ℕ) (vs : List ℕ) (v : ℕ) → pixels q (vs ++ (v ∷ [])) ≡ pixels q vs ++ pixel (q + length vs) v
unfolding pixels
pixels_snoc q [] v = let e : q ≡ q + 0 = omega arith in ap (λ (n : ℕ). pixel n v) e
pixels_snoc q (w ∷ vs) v =
    let e : suc q + length vs ≡ q + suc (length vs) = omega arith in
    ap (λ (l : List ℕ). pixel q w ++ l) (pixels_snoc (suc q) vs v ∙ ap (λ (n : ℕ). pixels (suc q) vs ++ pixel n v) e)

pub stored_pixel : (room vs : List ℕ) (k : ℕ) → k < length vs
    → sets (sets room 15 (pixels 0 (take k vs))) (15 + 4 * k) (pixel k (at vs k)) ≡ sets room 15 (pixels 0 (take (suc k) vs))
stored_pixel room vs k h =
    let n : length (take k vs) ≡ k = length-take-le k vs (omega arith) in
    let l : 15 + length (pixels 0 (take k vs)) ≡ 15 + 4 * k = omega (arith, length-pixels 0 (take k vs), n) in
    let m : 0 + length (take k vs) ≡ k = omega (arith, n) in
    ap (λ (i : ℕ). sets (sets room 15 (pixels 0 (take k vs))) i (pixel k (at vs k))) (sym l)
    ∙ sym (sets_append (pixels 0 (take k vs)) (pixel k (at vs k)) room 15)
    ∙ ap (λ (i : ℕ). sets room 15 (pixels 0 (take k vs) ++ pixel i (at vs k))) (sym m)
    ∙ ap (sets room 15) (sym (ap (pixels 0) (take-suc vs k 0 h) ∙ pixels_snoc 0 (take k vs) (at vs k)))

-- ---- the header and the pixels are the image
module _ (c : Capture) (room : List ℕ) where
  length-image : length (image c) ≡ 15 + 4 * length c.za
  length-image = omega (arith, length-append (header c.bench.vb) (pixels 0 c.za), length-pixels 0 c.za)

  drawn_over : 15 + 4 * length c.za ≤ length room → sets (header c.bench.vb ++ drop 15 room) 15 (pixels 0 c.za) ≡ over (image c) room
  drawn_over h =
      ap (λ (l : List ℕ). sets l 15 (pixels 0 c.za)) (sym (put_over (header c.bench.vb) room (omega arith)))
      ∙ sym (sets_append (header c.bench.vb) (pixels 0 c.za) room 0)
      ∙ put_over (image c) room (omega (arith, length-image))

module _ {file : List ℕ} {before after : Buffers} {a : Result Contents Refusal} (q : Reads file before a after) where
  module _ {k : Contents} (e : a ≡ Ok k) where
    reads : Reads file before (Ok k) after
    reads = subst (λ (r : Result Contents Refusal). Reads file before r after) e q

    abbrev b : Bench
    b = k.bench

    abbrev n : ℕ
    n = k.words

    there : There b n after
    there = contents_there q e

    pub show_drawn : (room next : List ℕ) (m : ℕ) → longest_image ≤ length room → m ≡ 15 + 4 * length (take (za_size b.vb) after.za)
        → next ≡ sets (header b.vb ++ drop 15 room) 15 (pixels 0 (take (za_size b.vb) after.za)) → Shows file room (Ok m) next
    show_drawn room next m l s h =
        let c = in_buffers b n after in
        let fits : 15 + 4 * length c.za ≤ length room = omega (arith, there.za, mul-le-mul there.vb_most there.vb_most) in
        drawn c (read_then_write file before after b n reads).holds (ap {B = Result ℕ Refusal} Ok (s ∙ sym (length-image c room))) (h ∙ drawn_over c room fits)
