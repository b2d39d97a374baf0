-- What putting a text into a room leaves: the words of private contracts.
use Rattle.std.specs.Prelude.{◌≡◌, ℕ, ◌+◌, List, length}
use Rattle.std.proofs.lemmas.List.Edits.{sets}
use Rattle.text.specs.Spelling.{Text}

-- t stands in the room from `at` to `next`; every other byte is as it was
pub record Put (before : List ℕ) (at : ℕ) (after : List ℕ) (next : ℕ) (t : Text) : Type 0 where
  pub ends : next ≡ at + length t
  pub text : after ≡ sets before at t
