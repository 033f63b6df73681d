use Rattle.image.specs.Reading.{Faultless}
use Rattle.image.proofs.Granting.{is_image_from_parts}
use Rattle.image.proofs.reading.read.Goals as goal

pub returns : goal.returns
returns c =
    let file = c.args.file.now in
    let laid = c.in_ok-image.ensures in
    let faultless : Faultless file = c.in_ok-try_entries.ensures file laid.0 laid.1.grants in
    (faultless, is_image_from_parts file _ faultless laid.1.code laid.1.grants)
