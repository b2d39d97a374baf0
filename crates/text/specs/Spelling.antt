-- How each instruction is spelt (document 01, "Text", and for ZERO document 02, C-12): lower case, decimal without leading
-- zeros.
use Rattle.std.specs.Prelude.{Bool, cond, List, [], ◌∷◌, ◌++◌, map, ℕ, ◌+◌, ◌/◌, ◌%◌, eqb, ltb}
use Rattle.isa.specs.Table.{element_bytes, source_bytes}
use Rattle.isa.specs.declared.Predicate.{Predicate}
use Rattle.isa.specs.declared.Tile.{Tile}
use Rattle.isa.specs.declared.Operation.{Operation}
use Rattle.isa.specs.declared.Source.{Source}
use Rattle.isa.specs.declared.Source.TheVariants.{One, Pair}
use Rattle.isa.specs.declared.Instruction.{Instruction}
use Rattle.isa.specs.declared.Instruction.TheVariants.{Predicated, Quarter, Zero}
use Rattle.names.specs.declared.TileName.{TileName}
use Rattle.names.specs.Names.{names_of}
use Rattle.text.specs.Ascii.{ascii}

abbrev pub Text : Type 0
Text = List ℕ

-- ---- numbers: a number below 100, as every register's is; 48 is the code of the digit 0
abbrev pub digit : ℕ → ℕ
digit n = 48 + n

abbrev pub decimal : ℕ → Text
decimal n = cond (ltb n 10) (digit n ∷ []) (digit (n / 10) ∷ digit (n % 10) ∷ [])

-- ---- mnemonics: which sources are unsigned, the family's stem, and a to add or s to subtract
abbrev pub signs : Bool → Bool → Text
signs u0 u1 = cond u0 (cond u1 (ascii "u") (ascii "us")) (cond u1 (ascii "su") (ascii "s"))

abbrev pub add_or_subtract : Bool → Text
add_or_subtract subtract = cond subtract (ascii "s") (ascii "a")

abbrev pub mnemonic : Text → Operation → Text
mnemonic stem op = signs op.u0 op.u1 ++ stem ++ add_or_subtract op.subtract

-- ---- operands, named with the size of their elements, which is 1, 2, 4 or 8 bytes
abbrev pub suffix : ℕ → Text
suffix bytes = cond (eqb bytes 1) (ascii ".b") (cond (eqb bytes 2) (ascii ".h") (cond (eqb bytes 4) (ascii ".s") (ascii ".d")))

abbrev pub tile_name : ℕ → Tile → Text
tile_name bytes t = ascii "za" ++ decimal t.0 ++ suffix bytes

abbrev pub predicate_name : Predicate → Text
predicate_name p = ascii "p" ++ decimal p.0 ++ ascii "/m"

abbrev pub vector_name : ℕ → ℕ → Text
vector_name bytes n = ascii "z" ++ decimal n ++ suffix bytes

abbrev pub source_name : ℕ → Source → Text
source_name bytes (One v) = vector_name bytes v.0
source_name bytes (Pair v) = ascii "{ " ++ vector_name bytes v.0 ++ ascii "-" ++ vector_name bytes (v.0 + 1) ++ ascii " }"

-- texts, each with a comma and a space before it
abbrev pub further : List Text → Text
further [] = []
further (t ∷ ts) = ascii ", " ++ t ++ further ts

-- texts with a comma and a space between each two
abbrev pub separated : List Text → Text
separated [] = []
separated (t ∷ ts) = t ++ further ts

-- ---- ZERO: the names of its mask's list, the shortest there is; the one tile of bytes is za
abbrev pub name_text : TileName → Text
name_text k = cond (eqb k.bytes 1) (ascii "za") (tile_name k.bytes k.tile)

abbrev pub braced : List Text → Text
braced [] = ascii "{}"
braced (t ∷ ts) = ascii "{ " ++ separated (t ∷ ts) ++ ascii " }"

-- ---- the line of an instruction
unfoldable pub spelling : Instruction → Text
spelling (Predicated p) =
    mnemonic (ascii "mop") p.op ++ ascii " "
    ++ separated
    (tile_name (element_bytes p.op) p.tile ∷ predicate_name p.pn ∷ predicate_name p.pm
    ∷ vector_name (source_bytes p.op) p.zn.0 ∷ vector_name (source_bytes p.op) p.zm.0 ∷ [])
spelling (Quarter q) =
    mnemonic (ascii "mop4") q.op ++ ascii " "
    ++ separated (tile_name (element_bytes q.op) q.tile ∷ source_name (source_bytes q.op) q.first ∷ source_name (source_bytes q.op) q.second ∷ [])
spelling (Zero m) = ascii "zero " ++ braced (map name_text (names_of m))
