-- A listing that is made piece by piece is the listing of the whole input, however it is cut, in rooms of any size; how much room
-- a piece wants; and how addresses go on. Assumes nothing.
use Rattle.std.proofs.Common.{◌≡◌, ℕ, ◌+◌, ◌*◌, ◌/◌, ◌%◌, ◌^◌, ◌≤◌, min, Bool, true, false, ltb, List, [], ◌∷◌, ◌++◌, map, length, take, drop, sym, refl, ap, ◌∙◌, append_assoc, append-nil, arith, length-append, length-take-le, take_all, ltb-false, ltb-true}
use mathlib.Core.List.{flatten}
use native.Mathlib.Nat.{min-le_left, min-le_right, min-eq_left}
use lib.Seq.{take-append_seam}
use Rattle.isa.specs.Table.{all_flags}
use Rattle.isa.specs.Answers.{describe, missing, decode_of}
use Rattle.isa.proofs.Answers.{features_on}
use Rattle.isa.proofs.Theorems.{decodes}
use Rattle.text.proofs.Lengths.{longest_line_lem}
use Rattle.disassembly.specs.Listing.{line, word_lines, end_line, listing}
use Rattle.disassembly.specs.Pieces.{pending, at_start, joined, lines_for, place_behind, after, end_for, longest_line, end_room, listed_all, most, taken_part, list_of, room_listed, finish_of, room_finished, finish_length}
use Rattle.disassembly.specs.Claims.{written, AnyCut, room_for, Call, written_by, taken_by, Roomy, AnyCalls, Suffices, Finishes, Says, Longest, Wraps}
use Rattle.disassembly.specs.declared.Begun.{Begun}
use Rattle.disassembly.specs.declared.Begun.TheVariants.{Nothing, One, Two, Three}
use Rattle.disassembly.specs.declared.Place.{Place}
use Rattle.disassembly.proofs.Inputs.{begun_short}
use Rattle.disassembly.proofs.Lines.{said-listed, said_unlisted, line-length, line_short}
use Rattle.disassembly.proofs.Listings.{no_lines, no_words, lines_split, place_split, lines_short, begun_length, place_whole}

-- ---- pieces in turn
-- a piece and what follows it
piece-lines : (p : Place) (s t : List ℕ) → lines_for p (s ++ t) ≡ lines_for p s ++ lines_for (after p s) t
piece-lines p s t = ap (word_lines p.address) (sym (append_assoc (pending p.begun) s t)) ∙ lines_split p.address (joined p s) t

piece-place : (p : Place) (s t : List ℕ) → after p (s ++ t) ≡ after (after p s) t
piece-place p s t = ap (place_behind p.address) (sym (append_assoc (pending p.begun) s t)) ∙ place_split p.address (joined p s) t

nothing_written : (p : Place) → lines_for p [] ≡ []
nothing_written p = rw append-nil (no_lines p.address p.begun)

same_place : (p : Place) → after p [] ≡ p
same_place p = rw append-nil (no_words p.address p.begun)

pieces_from : (p : Place) (pieces : List (List ℕ)) → written p pieces ≡ lines_for p (flatten pieces) ++ end_for (after p (flatten pieces))
unfolding flatten
pieces_from p [] = rw (nothing_written p, same_place p)
pieces_from p (s ∷ pieces) =
    let t = flatten pieces in
    rw (pieces_from (after p s) pieces, piece-lines p s t, piece-place p s t)
    (sym (append_assoc (lines_for p s) (lines_for (after p s) t) (end_for (after (after p s) t))))

-- however the input is cut
pub any_cut : AnyCut
unfolding listing
any_cut pieces = pieces_from at_start pieces ∙ rw (begun_length 0 (flatten pieces))

-- ---- room
module _ (p : Place) (piece : List ℕ) where
  abbrev n : ℕ
  n = length piece

  all_taken : (room : ℕ) → room_for n ≤ room → taken_part p piece room ≡ piece
  all_taken room h =
      let l : n ≤ most p room = omega (arith, begun_short p.begun) in
      rw (min-eq_left l) (take_all n piece (omega arith))

  taken_length : (room : ℕ) → length (taken_part p piece room) ≡ min n (most p room)
  taken_length room = length-take-le (min n (most p room)) piece (min-le_left _ _)

  pub taken_fits : (room : ℕ) → length (joined p (taken_part p piece room)) ≤ 4 * (room / longest_line) + 3
  taken_fits room =
      let s = taken_part p piece room in
      omega (arith, length-append (pending p.begun) s, taken_length room, min-le_right n (most p room), begun_short p.begun)

  pub written_fits : (room : ℕ) → length (lines_for p (taken_part p piece room)) ≤ room
  written_fits room = omega (arith, lines_short p.address (joined p (taken_part p piece room)), taken_fits room)

  pub suffices : Suffices p piece
  unfolding list_of room_listed
  suffices =
      record {
        whole = λ room h. ap (listed_all p) (all_taken room h);
        whole_room = λ room h. ap (λ (s : List ℕ). lines_for p s ++ drop (length (lines_for p s)) room) (all_taken (length room) h);
        most_taken = λ room. omega (arith, taken_length room, min-le_left n (most p room));
        some_taken = λ room h l. omega (arith, taken_length room, begun_short p.begun);
        fits = written_fits;
        most_words = omega (arith, length-append (pending p.begun) piece, begun_short p.begun);
        most_lines = lines_short p.address (joined p piece);
      }

-- ---- the end
-- its line has six bytes, if there is one
end_lengths : (b : Begun) → (let n = length (pending b) in
    (n ≡ 0 → length (end_line n) ≡ 0) × ((n ≡ 0 → ⊥) → length (end_line n) ≡ end_room) × (length (end_line n) ≤ end_room))
unfolding end_line
end_lengths Nothing = (λ e. refl, λ d. absurd (d refl), omega arith)
end_lengths (One x) = (λ e. absurd (omega arith), λ d. refl, omega arith)
end_lengths (Two x y) = (λ e. absurd (omega arith), λ d. refl, omega arith)
end_lengths (Three x y z) = (λ e. absurd (omega arith), λ d. refl, omega arith)

pub finishes : (p : Place) (room : List ℕ) → Finishes p room
unfolding finish_of room_finished
finishes p room = go (ltb (length room) (length (end_for p))) refl
  where
    go : (b : Bool) → ltb (length room) (length (end_for p)) ≡ b → Finishes p room
    go true q =
        let l = ltb-true (length room) (length (end_for p)) q in
        record {
          accepts = rw q (λ e. absurd (omega arith), λ h. absurd (omega arith));
          gives_12 = rw q (λ e. l, λ h. refl);
          no_sum = rw q;
          refused = rw q (λ d. (refl, refl));
          written = rw q (λ e. absurd (omega arith));
          no_line = (end_lengths p.begun).0;
          one_line = (end_lengths p.begun).1;
          short = (end_lengths p.begun).2;
        }
    go false q =
        let l = ltb-false (length room) (length (end_for p)) q in
        record {
          accepts = rw q (λ e. l, λ h. refl);
          gives_12 = rw q (λ e. absurd (omega arith), λ h. absurd (omega arith));
          no_sum = rw q;
          refused = rw q (λ d. absurd (d refl));
          written = rw q (λ e. (refl, refl));
          no_line = (end_lengths p.begun).0;
          one_line = (end_lengths p.begun).1;
          short = (end_lengths p.begun).2;
        }

end_written : (p : Place) (end : List ℕ) → end_room ≤ length end → take (finish_length p (length end)) (room_finished p end) ≡ end_for p
end_written p end h =
    let f = finishes p end in
    let (t, n) = f.written (f.accepts.1 (omega (arith, f.short))) in
    rw (t, n) (take-append_seam (end_for p) (drop (length (end_for p)) end))

-- ---- calls with rooms of any size
parts : Place → List Call → List (List ℕ)
parts p [] = []
parts p (c ∷ cs) = let s = taken_part p c.piece (length c.room) in s ∷ parts (after p s) cs

written_parts : (p : Place) (calls : List Call) (end : List ℕ) → end_room ≤ length end → written_by p calls end ≡ written p (parts p calls)
unfolding parts list_of room_listed
written_parts p [] end h = end_written p end h
written_parts p (c ∷ cs) end h =
    let s = taken_part p c.piece (length c.room) in
    rw (written_parts (after p s) cs end h, take-append_seam (lines_for p s) (drop (length (lines_for p s)) c.room))

taken_parts : (p : Place) (calls : List Call) → taken_by p calls ≡ flatten (parts p calls)
unfolding parts list_of flatten
taken_parts p [] = refl
taken_parts p (c ∷ cs) =
    let n = min (length c.piece) (most p (length c.room)) in
    let e : length (take n c.piece) ≡ n = length-take-le n c.piece (min-le_left _ _) in
    rw (e, taken_parts (after p (take n c.piece)) cs)

roomy_parts : (p : Place) (calls : List Call) → Roomy calls → parts p calls ≡ map (λ c. c.piece) calls
unfolding parts
roomy_parts p [] r = refl
roomy_parts p (c ∷ cs) (h, r) = rw (all_taken p c.piece (length c.room) h, roomy_parts (after p c.piece) cs r)

pub any_calls : (calls : List Call) (end : List ℕ) → AnyCalls calls end
any_calls calls end =
    record {
      of_taken = λ h. cut h ∙ ap listing (sym (taken_parts at_start calls));
      of_all = λ r h. cut h ∙ ap (λ (s : List (List ℕ)). listing (flatten s)) (roomy_parts at_start calls r);
    }
  where
    cut : end_room ≤ length end → written_by at_start calls end ≡ listing (flatten (parts at_start calls))
    cut h = written_parts at_start calls end h ∙ any_cut (parts at_start calls)

-- ---- lines
pub says : (w : ℕ) → Says w
says w =
    record {
      listed = λ l. said-listed w ((decodes all_flags w).accepts.1 (omega arith, l, features_on w));
      unlisted = λ u. said_unlisted w ((decodes all_flags w).gives_7.1 (omega arith, u));
    }

longest_one : length (line 0 0x811E8352) ≡ longest_line
unfolding describe missing decode_of
longest_one = line-length 0 0x811E8352 ∙ rw (said-listed 0x811E8352 refl, longest_line_lem)

pub longest : Longest
longest = record { most = line_short; one = longest_one }

-- ---- addresses
pub wraps : Wraps
unfolding listing
wraps before bytes h =
    let e : (0 + length before) % 2 ^ 32 ≡ 0 = omega arith in
    let n : length (before ++ bytes) % 4 ≡ length bytes % 4 = omega (arith, length-append before bytes) in
    rw (lines_split 0 before bytes, place_whole 0 before (omega arith), e, n) (append_assoc (word_lines 0 before) (word_lines 0 bytes) (end_line (length bytes % 4)))
