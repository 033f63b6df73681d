-- A slice as arrays of four bytes. Assumes nothing.
use Rattle.std.proofs.Common.{◌≡◌, ℕ, zero, suc, ◌+◌, ◌*◌, ◌<◌, List, [], get_or, drop, refl, ap, ◌∙◌, arith}
use Rattle.std.specs.Int.{w32, from_be_bytes}
use Rattle.std.specs.Simd.{first_chunks}
use Rattle.std.proofs.lemmas.List.{get_or-take, get_or-drop}
use Rattle.image.specs.Files.{number32}

chunk_first : (bytes : List ℕ) (n k i : ℕ) → k < n → i < 4 → get_or (get_or (first_chunks 4 n bytes) k []) i 0 ≡ get_or bytes (4 * k + i) 0
chunk_first bytes zero k i h lt = absurd (omega arith)
chunk_first bytes (suc n) zero i h lt = get_or-take 4 bytes i 0 lt ∙ ap (λ j. get_or bytes j 0) (omega arith)
chunk_first bytes (suc n) (suc k) i h lt =
    chunk_first (drop 4 bytes) n k i (omega arith) lt ∙ get_or-drop 4 bytes (4 * k + i) 0 ∙ ap (λ j. get_or bytes j 0) (omega arith)

-- a byte of the k-th array
pub chunk_byte : (bytes : List ℕ) (chunks : List (List ℕ)) (n k i p : ℕ) → chunks ≡ first_chunks 4 n bytes → k < n → i < 4 → p ≡ 4 * k + i → get_or (get_or chunks k []) i 0 ≡ get_or bytes p 0
chunk_byte bytes chunks n k i p e h lt at = rw (e, at) (chunk_first bytes n k i h lt)

-- the number that its bytes make
pub chunk_number : (bytes : List ℕ) (chunks : List (List ℕ)) (n k : ℕ) → chunks ≡ first_chunks 4 n bytes → k < n → from_be_bytes w32 (get_or chunks k []) ≡ number32 bytes (4 * k)
chunk_number bytes chunks n k e h =
    let at : (i p : ℕ) → i < 4 → p ≡ 4 * k + i → get_or (get_or chunks k []) i 0 ≡ get_or bytes p 0 = λ i p lt is. chunk_byte bytes chunks n k i p e h lt is in
    rw (at 0 (4 * k) (omega arith) (omega arith), at 1 _ (omega arith) refl, at 2 _ (omega arith) refl, at 3 _ (omega arith) refl) (grind arith)
