-- What a word is executed on: the bench and the three buffers. A word takes it and hands it on.
use Rattle.std.specs.Prelude.{List, ℕ}
use Rattle.machine.specs.declared.Bench.{Bench}

pub record Machine : Type 0 where
  pub bench : Bench
  pub z : List ℕ
  pub p : List ℕ
  pub za : List ℕ

abbrev pub on : Bench → List ℕ → List ℕ → List ℕ → Machine
on b z p za = record { bench = b; z = z; p = p; za = za }

-- the same with another ZA
abbrev pub with_za : Machine → List ℕ → Machine
with_za m za = on m.bench m.z m.p za
