-- Ports that are read one after the other give the bytes of a bank.
use Rattle.std.proofs.Common.{◌≡◌, ℕ, ◌<◌, List, [], ◌∷◌, length, slice_index_or, refl, ap, ◌∙◌, arith, suc}
use Rattle.std.specs.List.{fold}
use Rattle.banks.specs.Ports.{Ports, blank, port_at}
use Rattle.bench.specs.Checksums.{mixed_with, mixed_all, port_bytes}

-- one more port is mixed in
abbrev pub with_port : Ports → ℕ → ℕ → ℕ
with_port ps h k = mixed_with h (port_at ps k).byte

pub fold_ports : (ps rest : Ports) (ks : List ℕ) (h : ℕ)
    → length ks ≡ length rest
    → ((j : ℕ) → j < length ks → port_at ps (slice_index_or ks j 0) ≡ slice_index_or rest j blank)
    → fold (with_port ps) h ks ≡ mixed_all h (port_bytes rest)
fold_ports ps [] [] h same at = refl
fold_ports ps [] (k ∷ ks) h same at = absurd (omega arith)
fold_ports ps (r ∷ rest) [] h same at = absurd (omega arith)
fold_ports ps (r ∷ rest) (k ∷ ks) h same at =
    let first : port_at ps k ≡ r = at 0 (omega arith) in
    ap (λ q. fold (with_port ps) (mixed_with h q.byte) ks) first
    ∙ fold_ports ps rest ks (mixed_with h r.byte) (omega arith) (λ j lt. at (suc j) (omega arith))
