use Rattle.tt_log.proofs.ValueLaws.{hex_found, hex_lost}
use Rattle.tt_admin_file.proofs.reading.hex_of.Goals as goal

pub returns-in-Some : goal.returns-in-Some
returns-in-Some c =
    let found = rw c.in-Some.is at c.in_ok-piece.ensures.found in
    record { read = rw c.new.ensures.bytes (hex_found c.args.word.now c.in-Some.piece.items found.0 found.1) }

pub returns-in-None : goal.returns-in-None
returns-in-None c = record { read = hex_lost c.args.word.now (rw c.in-None.is at c.in_ok-piece.ensures.none) }
