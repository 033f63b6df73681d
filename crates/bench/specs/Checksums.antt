-- The checksum FNV-1a of 64 bits. Assumes nothing.
--   mixed_with h b   one more byte: it is xored in, and the result multiplied by the prime
--   mixed_all h bs   the bytes one after the other
--   checksum_of bs   the same from the offset basis on
--   port_bytes ps    the bytes on a bank's ports, in order
use Rattle.std.specs.Prelude.{ℕ, ◌*◌, ◌%◌, ◌^◌, List, [], ◌∷◌, map, bit_xor}
use Rattle.banks.specs.Ports.{Ports}

abbrev pub mixed_with : ℕ → ℕ → ℕ
mixed_with h b = bit_xor h b * 1099511628211 % 2 ^ 64

abbrev pub mixed_all : ℕ → List ℕ → ℕ
mixed_all h [] = h
mixed_all h (b ∷ bs) = mixed_all (mixed_with h b) bs

abbrev pub checksum_of : List ℕ → ℕ
checksum_of bs = mixed_all 14695981039346656037 bs

abbrev pub port_bytes : Ports → List ℕ
port_bytes ps = map (λ p. p.byte) ps
