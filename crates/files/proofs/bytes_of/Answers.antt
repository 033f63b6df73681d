-- A source whose bytes are known gives them up to the limit.
use Rattle.files.specs.Files.{most_read}
use Rattle.files.proofs.Known.{cut_once}
use Rattle.files.proofs.bytes_of.Goals as goal

pub returns-clause-bytes : goal.returns-clause-bytes
returns-clause-bytes g c =
    let h = rw (c.take.ensures.limit, c.take.ensures.inner, c.new-bytes.ensures.items) at c.in_ok-read_to_end.ensures.bytes in
    cut_once most_read (g.R.Read.remaining c.args.source) c.read_to_end.new.buf.items c.truncate.new.self.items h c.truncate.ensures.items
