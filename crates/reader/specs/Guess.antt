-- The instruction that a line can only spell, if it spells any, and what is answered of its word. Private contracts alone
-- cite this page.
use Rattle.std.specs.Prelude.{Bool, false, not, cond, ◌&&◌, ◌||◌, [], ◌∷◌, ℕ, ◌+◌, ◌-◌, ◌*◌, ◌%◌, ◌^◌, eqb, ltb, length, get_or, Err, Ok, Result}
use Rattle.std.proofs.Math.Option.{Option, none, some}
use Rattle.isa.specs.Table.{source}
use Rattle.isa.specs.declared.Operation.{Operation}
use Rattle.isa.specs.declared.Source.{Source}
use Rattle.isa.specs.declared.Instruction.{Instruction}
use Rattle.isa.specs.declared.Instruction.TheVariants.{Predicated, Quarter, Zero}
use Rattle.isa.specs.declared.Refusal.{Refusal}
use Rattle.isa.specs.declared.Refusal.TheVariants.{NotText}
use Rattle.text.specs.Spelling.{Text}
use Rattle.reader.specs.declared.Scan.{Scan}

-- ---- what stands in an outer product's line, byte by byte
abbrev pub fresh : Scan
fresh =
    record {
      wide = false;
      half = false;
      predicated = false;
      n0 = 0;
      n1 = 0;
      n2 = 0;
      n3 = 0;
      number = 0;
      earlier = false;
      pair = false;
    }

-- a z or p (122, 112) starts a number anew, a digit (48 to 57) goes on; the last two digits count
abbrev pub number_after : ℕ → ℕ → ℕ
number_after n b = cond (eqb b 122) 0 (cond (eqb b 112) 0 (cond (ltb b 48) n (cond (ltb 57 b) n (n % 10 * 10 + (b - 48)))))

-- a comma: the next operand
abbrev pub shifted : Scan → Scan
shifted s =
    record {
      wide = s.wide;
      half = s.half;
      predicated = s.predicated;
      n0 = s.n1;
      n1 = s.n2;
      n2 = s.n3;
      n3 = s.number;
      number = 0;
      earlier = s.pair;
      pair = false;
    }

-- any other byte: d is a 64-bit tile's, h (104) a halfword source's, a stroke (47) a predicate's, a hyphen (45) a pair's
abbrev pub marked : Scan → ℕ → Scan
marked s b =
    record {
      wide = eqb b 100 || s.wide;
      half = eqb b 104 || s.half;
      predicated = eqb b 47 || s.predicated;
      n0 = s.n0;
      n1 = s.n1;
      n2 = s.n2;
      n3 = s.n3;
      number = number_after s.number b;
      earlier = s.earlier;
      pair = eqb b 45 || s.pair;
    }

abbrev pub stepped : Scan → ℕ → Scan
stepped s b = cond (eqb b 44) (shifted s) (marked s b)

unfoldable pub scanned : Scan → Text → Scan
scanned s [] = s
scanned s (b ∷ t) = scanned (stepped s b) t

-- ---- the mask of ZERO's names

-- the 64-bit tiles of tile 0 of a size, as a mask: d (100) is itself one, s (115) has every fourth, h (104) every second
abbrev pub share : ℕ → ℕ
share b = cond (eqb b 100) 0x01 (cond (eqb b 115) 0x11 (cond (eqb b 104) 0x55 0))

-- the letter behind number n adds the tiles of tile n
abbrev pub tiles_after : ℕ → ℕ → ℕ → ℕ
tiles_after m n b = (m + share b * 2 ^ (n % 8)) % 256

unfoldable pub tiles_from : ℕ → ℕ → Text → ℕ
tiles_from m n [] = m
tiles_from m n (b ∷ t) = tiles_from (tiles_after m n b) (number_after n b) t

-- one line has a name without a number: `zero { za }`, which alone has 11 bytes
abbrev pub zero_mask : Text → ℕ
zero_mask t = cond (eqb (length t) 11) 255 (tiles_from 0 0 t)

-- ---- the letters of an outer product's name, by their places
abbrev pub byte_at : Text → ℕ → ℕ
byte_at t p = get_or t p 0

-- m (109) behind the first letter: it stands for both sources
abbrev pub one_sign : Text → Bool
one_sign t = eqb (byte_at t 1) 109

-- where the letter of the second source stands
abbrev pub second_at : Bool → ℕ
second_at one = cond one 0 1

-- where the last letter stands: behind one sign or two, and mop or mop4
abbrev pub last_at : Bool → Bool → ℕ
last_at one predicated = cond one (cond predicated 4 5) (cond predicated 5 6)

-- u (117) is an unsigned source, s (115) as the last letter subtracts
abbrev pub operation_of : Text → Bool → Bool → Bool → Operation
operation_of t wide two predicated =
    record {
      wide = wide;
      two_way = two;
      u0 = eqb (byte_at t 0) 117;
      u1 = eqb (byte_at t (second_at (one_sign t))) 117;
      subtract = eqb (byte_at t (last_at (one_sign t) predicated)) 115;
    }

-- ---- the instruction

-- a pair's last number is that of its second register
abbrev pub source_of : Bool → ℕ → Source
source_of pair n = source pair (cond pair (n - 1) n)

abbrev pub outer_of : Operation → Scan → Instruction
outer_of op s =
    cond s.predicated
    (Predicated
    (record {
      op = op;
      tile = record { 0 = s.n0 };
      pn = record { 0 = s.n1 };
      pm = record { 0 = s.n2 };
      zn = record { 0 = s.n3 };
      zm = record { 0 = s.number };
    }))
    (Quarter (record { op = op; tile = record { 0 = s.n2 }; first = source_of s.earlier s.n3; second = source_of s.pair s.number }))

-- halfwords on a 32-bit tile are 2-way
abbrev pub outer_guess : Text → Scan → Instruction
outer_guess t s = outer_of (operation_of t s.wide (s.half && not s.wide) s.predicated) s

-- a z begins ZERO alone
unfoldable pub guess_of : Text → Instruction
guess_of t = cond (eqb (byte_at t 0) 122) (Zero (zero_mask t)) (outer_guess t (scanned fresh t))

-- ---- what is answered of a word, by whether it has the line, and by decode's refusal
abbrev pub word_unless : Option Refusal → ℕ → Result ℕ Refusal
word_unless none w = Ok w
word_unless (some r) w = Err r

abbrev pub verdict : ℕ → Bool → Option Refusal → Result ℕ Refusal
verdict w spelt o = cond spelt (word_unless o w) (Err NotText)
