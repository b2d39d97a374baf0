-- A capture of two words at VB 16, and its file, worked out by hand.
use Rattle.std.specs.Prelude.{◌≡◌, true, false, List, [], ◌∷◌, ◌++◌, ℕ, length, replicate}
use Rattle.capture.specs.Format.{Capture, capture_of, bytes_of_capture, Legal}

-- ZERO of all tiles and a SUMOPA, with ZA on alone
abbrev pub sample : Capture
sample = capture_of (record { flags = 7; sm = false; za = true; vb = 16 }) (3221750015 ∷ 2694840320 ∷ []) (replicate 512 255) (replicate 32 254) (replicate 256 253)

abbrev pub sample_file : List ℕ
sample_file =
    1 ∷ []
    ++ (0 ∷ 0 ∷ 0 ∷ 4 ∷ 7 ∷ 2 ∷ 0 ∷ 16 ∷ [])
    ++ (0 ∷ 0 ∷ 0 ∷ 8 ∷ 192 ∷ 8 ∷ 0 ∷ 255 ∷ 160 ∷ 160 ∷ 0 ∷ 0 ∷ [])
    ++ (0 ∷ 0 ∷ 2 ∷ 0 ∷ replicate 512 255)
    ++ (0 ∷ 0 ∷ 0 ∷ 32 ∷ replicate 32 254)
    ++ (0 ∷ 0 ∷ 1 ∷ 0 ∷ replicate 256 253)

pub record Sample : Type 0 where
  pub lawful : Legal sample
  pub bytes : bytes_of_capture sample ≡ sample_file
  pub size : length sample_file ≡ 833
