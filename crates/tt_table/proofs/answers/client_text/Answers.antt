use Rattle.std.proofs.Common.{arith}
use Rattle.tt_table.proofs.ClientLines.{client_fits}
use Rattle.tt_table.proofs.answers.client_text.Goals as goal

pub long_text-requires : goal.long_text-requires
long_text-requires c =
    let client = c.ranges.client.fits in
    let company = c.ranges.company.fits in
    record {
      text = rw (
        c.as_slice.ensures.value,
        c.in_ok-put-3.ensures.text,
        c.in_ok-put-2.ensures.text,
        c.in_ok-put_number-2.ensures.text,
        c.in_ok-put.ensures.text,
        c.in_ok-put_number.ensures.text,
        c.new-text.ensures.items,
        c.bytes-bytes.ensures.same,
      )
          (client_fits c.args.client c.args.company c.args.name.now (omega (arith, client)) (omega (arith, company))
          c.bytes-bytes.ensures.test);
    }
