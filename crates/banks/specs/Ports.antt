-- Ports, and the banks of 256 ports. Assumes nothing.
--   merged m new old      the bits that are 1 in m from new, the others from old
--   Mixed m new old r     the same, bit by bit
--   written v p           the port after v was written: the bits that are 1 in its mask become those of v
--   driven v p            the port after v was driven: its other bits become those of v
--   Ports, port_at ps k   the ports of a bank in order, and port k
--   written_at, driven_at k v ps   the bank after v was written to, or driven on, port k
--   Merges k new old before after   what became of a bank: at port k the writable bits are those of new and the
--                         others those of old; no mask and no other port changed
use Rattle.std.specs.Prelude.{◌≡◌, ℕ, cond, List, map, ◌==◌, ◌≢◌, bit_and, bit_xor, slice_index_or, slice_set}
use Rattle.bits.specs.Bits.{bit}
use Rattle.banks.specs.declared.port.Port.{Port}

abbrev pub merged : ℕ → ℕ → ℕ → ℕ
merged m new old = bit_xor old (bit_and (bit_xor old new) m)

abbrev pub Mixed : ℕ → ℕ → ℕ → ℕ → Type 0
Mixed m new old r = (k : ℕ) → bit r k ≡ cond (bit m k == 1) (bit new k) (bit old k)

abbrev pub blank : Port
blank = record { byte = 0; mask = 0 }

abbrev pub written : ℕ → Port → Port
written v p = record { byte = merged p.mask v p.byte; mask = p.mask }

abbrev pub driven : ℕ → Port → Port
driven v p = record { byte = merged p.mask p.byte v; mask = p.mask }

abbrev pub Ports : Type 0
Ports = List Port

abbrev pub port_at : Ports → ℕ → Port
port_at ps k = slice_index_or ps k blank

abbrev pub written_at : ℕ → ℕ → Ports → Ports
written_at k v ps = slice_set ps k (written v (port_at ps k))

abbrev pub driven_at : ℕ → ℕ → Ports → Ports
driven_at k v ps = slice_set ps k (driven v (port_at ps k))

pub record Merges (k new old : ℕ) (before after : Ports) : Type 0 where
  pub byte : Mixed (port_at before k).mask new old (port_at after k).byte
  pub mask : (port_at after k).mask ≡ (port_at before k).mask
  pub others : (j : ℕ) → (j ≢ k) → port_at after j ≡ port_at before j

-- a port of storage: every bit is writable
abbrev pub stored : ℕ → Port
stored b = record { byte = b; mask = 255 }

abbrev pub stored_ports : List ℕ → Ports
stored_ports bytes = map stored bytes
