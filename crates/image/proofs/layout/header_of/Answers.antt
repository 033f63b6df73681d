use Rattle.std.proofs.Common.{◌≡◌, ℕ, ◌*◌, ◌/◌, ◌<◌, ◌≤◌, [], length, get_or, ◌∙◌, arith}
use Rattle.std.specs.Int.{w32, from_be_bytes}
use Rattle.image.specs.Files.{number32}
use Rattle.image.proofs.Chunks.{chunk_number}
use Rattle.image.proofs.layout.header_of.Goals as goal

pub returns : goal.returns
returns c =
    let file = c.args.file.now in
    let numbers = c.as_chunks.result.0.now in
    let many : 5 ≤ length file / 4 = omega (arith, c.as_chunks.ensures.front_len, c.in-len5-up.len_at_least) in
    let at : (k : ℕ) → k < 5 → from_be_bytes w32 (get_or numbers k []) ≡ number32 file (4 * k) =
    λ k lt. chunk_number file numbers _ k c.as_chunks.ensures.front (omega arith) in
    record {
      whole = omega arith;
      format = c.from_be_bytes.ensures ∙ at 0 (omega arith);
      words = c.from_be_bytes-2.ensures ∙ at 1 (omega arith);
      code = c.from_be_bytes-3.ensures ∙ at 2 (omega arith);
      grants = c.from_be_bytes-4.ensures ∙ at 3 (omega arith);
      grant_start = c.from_be_bytes-5.ensures ∙ at 4 (omega arith);
    }
