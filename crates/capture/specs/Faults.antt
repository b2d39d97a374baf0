-- What refusal 16 stands for, fault by fault, in document 02's words.
use Rattle.std.specs.Prelude.{◌≡◌, false, List, [], ◌∷◌, ℕ, ◌*◌, ◌%◌, ◌<◌, length}
use Rattle.isa.specs.Table.{all_flags}
use Rattle.storage.specs.Sizes.{legal, z_size, p_size, za_size}
use Rattle.storage.specs.Bytes.{at}
use Rattle.machine.specs.Lists.{most_words}
use Rattle.capture.specs.Format.{version, joined, Short, number2}

-- the file is the version, five parts, and nothing more
pub record Parted (file head words z p za : List ℕ) : Type 0 where
  pub bytes : file ≡ version ∷ joined (head ∷ words ∷ z ∷ p ∷ za ∷ [])
  pub short : Short (head ∷ words ∷ z ∷ p ∷ za ∷ [])

-- what is wrong with the parts
pub data Fault (head words z p za : List ℕ) : Type 0 where
  not_4_bytes : (length head ≡ 4 → ⊥) → Fault head words z p za
  flags : all_flags < at head 0 → Fault head words z p za
  modes_above_3 : 3 < at head 1 → Fault head words z p za
  vector_length : legal (number2 head 2) ≡ false → Fault head words z p za
  no_multiple_of_4 : (length words % 4 ≡ 0 → ⊥) → Fault head words z p za
  too_many_words : 4 * most_words < length words → Fault head words z p za
  z_length : (length z ≡ z_size (number2 head 2) → ⊥) → Fault head words z p za
  p_length : (length p ≡ p_size (number2 head 2) → ⊥) → Fault head words z p za
  za_length : (length za ≡ za_size (number2 head 2) → ⊥) → Fault head words z p za

pub data Malformed (file : List ℕ) : Type 0 where
  empty : file ≡ [] → Malformed file
  missing_or_left-over : at file 0 ≡ version → ((head words z p za : List ℕ) → Parted file head words z p za → ⊥) → Malformed file
  faulty : (head words z p za : List ℕ) → Parted file head words z p za → Fault head words z p za → Malformed file
