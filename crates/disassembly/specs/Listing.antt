-- The listing of a list of bytes, as text (document 02, C-19): a line for each little-endian word, and one for an odd end. It is
-- written from the request and from `text_of`, the text of a word.
use Rattle.std.specs.Prelude.{ℕ, zero, suc, ◌+◌, ◌/◌, ◌%◌, ◌^◌, cond, List, [], ◌∷◌, ◌++◌, length, ◌==◌, nat_lt}
use Rattle.isa.specs.Table.{all_flags}
use Rattle.isa.specs.Answers.{decode_number}
use Rattle.storage.specs.Bytes.{at, word}
use Rattle.text.specs.Ascii.{ascii}
use Rattle.text.specs.Spelling.{Text, decimal}
use Rattle.text.specs.Printing.{text_of}

-- ---- hexadecimal digits in lower case: 48 is the code of 0, and 97 that of a
abbrev pub hex_digit : ℕ → ℕ
hex_digit d = cond (nat_lt d 10) (48 + d) (87 + d)

-- the n lowest digits of v, the highest of them first
unfoldable pub hexadecimal : ℕ → ℕ → Text
hexadecimal zero v = []
hexadecimal (suc n) v = hex_digit (v / 16 ^ n % 16) ∷ hexadecimal n v

-- ---- a line: eight digits of the byte address modulo 2^32, eight of the word, what is said of the word, a line feed
abbrev pub field : ℕ → Text
field v = hexadecimal 8 v ++ ascii " "

-- the text of a word, or - and the number of its refusal; every feature is on
unfoldable pub said : ℕ → Text
said w = cond (decode_number all_flags w == 0) (text_of w) (ascii "-" ++ decimal (decode_number all_flags w))

abbrev pub line_feed : Text
line_feed = 10 ∷ []

unfoldable pub line : ℕ → ℕ → Text
line address w = field (address % 2 ^ 32) ++ field w ++ said w ++ line_feed

-- ---- the lines of the whole words among bytes, the first of which has this address
abbrev pub word_of : ℕ → ℕ → ℕ → ℕ → ℕ
word_of a b c d = word 4 (at (a ∷ b ∷ c ∷ d ∷ [])) 0

unfoldable pub word_lines : ℕ → List ℕ → Text
word_lines address (a ∷ b ∷ c ∷ d ∷ bytes) = line address (word_of a b c d) ++ word_lines (address + 4) bytes
word_lines address (a ∷ b ∷ c ∷ []) = []
word_lines address (a ∷ b ∷ []) = []
word_lines address (a ∷ []) = []
word_lines address [] = []

-- ---- an odd end of 1 to 3 bytes has a line with their number
unfoldable pub end_line : ℕ → Text
end_line n = cond (n == 0) [] (ascii "end " ++ decimal n ++ line_feed)

unfoldable pub listing : List ℕ → Text
listing bytes = word_lines 0 bytes ++ end_line (length bytes % 4)
