use Rattle.std.proofs.Common.{◌<◌, ◌∷◌, [], List, ap, length, take, arith}
use Rattle.std.specs.Prelude.{Option, option_copied}
use Rattle.tt_world.specs.declared.company.Company.{Company}
use Rattle.std.specs.List.{flat_map}
use Rattle.std.proofs.lemmas.List.{length-append, take_all}
use Rattle.tt_map.specs.declared.version.Version.TheVariants.{Second}
use Rattle.tt_map.specs.Layout.{live_from, company_bytes}
use Rattle.tt_map.proofs.WritingLaws.{one_place, companies_fit}
use Rattle.tt_map.proofs.writer.companies_length.Goals as goal

pub loop-n-preserved : goal.loop-n-preserved
loop-n-preserved c =
    let places = c.args.world.now.companies in
    let n = c.loop-n.n in
    let inside : n < length places = omega (arith, c.signs-signs.ensures.sound.places) in
    let more = one_place places n (option_copied c.company.result) inside c.company.ensures.company in
    let piece = ap length c.place.ensures in
    record {
      fits = omega (arith, c.loop-n.invariant.fits);
      same =
          omega (
            arith,
            c.loop-n.invariant.same,
            ap length more,
            piece,
            length-append (flat_map (company_bytes Second) (live_from 0 (take n places))) (flat_map (company_bytes Second)
                (live_from n (option_copied c.company.result ∷ []))),
          );
    }

pub returns-clause-fits : goal.returns-clause-fits
returns-clause-fits c =
    let places = c.args.world.now.companies in
    let all = take_all c.loop-n.n places (omega (arith, c.signs-signs.ensures.sound.places)) in
    omega (
      arith,
      companies_fit c.args.world.now c.signs-signs.ensures.sound,
      c.loop-n.invariant.same,
      ap (λ (l : List (Option Company)). length (flat_map (company_bytes Second) (live_from 0 l))) all,
    )
