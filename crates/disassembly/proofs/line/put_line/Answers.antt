-- `disassembly::line::put_line` meets its contract: part by part. Assumes nothing.
use Rattle.std.proofs.Common.{◌≡◌, ℕ, ◌%◌, ◌^◌, ◌<◌, length, sym, ap, ◌∙◌, mod-eq_of_lt, arith}
use Rattle.disassembly.specs.Listing.{field, line}
use Rattle.disassembly.proofs.Rooms.{◌then◌, put_as, put_size}
use Rattle.disassembly.proofs.Lines.{said_short, field-length}
use Rattle.disassembly.proofs.line.put_line.Goals as goal

-- the address is below 2^32
own_address : (address : ℕ) → address < 2 ^ 32 → field address ≡ field (address % 2 ^ 32)
own_address address h = ap field (sym (mod-eq_of_lt h))

pub put-requires : goal.put-requires
put-requires c =
    let p = c.put-a.ensures in
    let q = c.put-b.ensures in
    let r = c.put_said-c.ensures in
    let f = ap length c.field.ensures ∙ field-length c.args.address in
    let g = ap length c.field-2.ensures ∙ field-length c.args.word in
    omega (arith, c.requires, p.ends, q.ends, r.ends, put_size p, put_size q, put_size r, said_short c.args.word)

pub returns : goal.returns
unfolding line
returns c =
    put_as c.put-a.ensures (c.field.ensures ∙ own_address c.args.address (omega (arith, c.ranges.address)))
    then put_as c.put-b.ensures c.field-2.ensures
    then c.put_said-c.ensures
    then c.put.ensures
