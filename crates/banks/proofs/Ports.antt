-- What writes and drives leave. Assumes nothing.
use Rattle.std.specs.Prelude.{◌≡◌, ℕ, ◌+◌, ◌%◌, ◌<◌, min, List, length, set, slice_index, slice_set}
use Rattle.std.proofs.Common.{sym, ap, ◌∙◌, arith, get_or-set_same, get_or-set_other}
use Rattle.std.specs.Int.Bits.{bit_and, bit_xor}
use Rattle.std.proofs.lemmas.List.{get_or-map, map-set, length-map}
use Rattle.std.proofs.lemmas.Bool.Decides.{nat_tests}
use Rattle.bits.specs.Bits.{bit}
use Rattle.std.proofs.lemmas.Nat.Bits.{bit_at_and, bit_at_xor}
use Rattle.banks.specs.Ports.{merged, Mixed, blank, Ports, port_at, Merges, stored, stored_ports}
use Rattle.banks.specs.declared.port.Port.{Port}

pub merged_mixed : (m new old : ℕ) → Mixed m new old (merged m new old)
merged_mixed m new old k =
    let x = bit_at_xor old (bit_and (bit_xor old new) m) k in
    let a = bit_at_and (bit_xor old new) m k in
    let d = bit_at_xor old new k in
    let e : bit (merged m new old) k ≡ (bit old k + min ((bit old k + bit new k) % 2) (bit m k)) % 2 = x ∙ ap (λ n. (bit old k + n) % 2) (a ∙ ap (λ n. min n (bit m k)) d) in
    e ∙ grind (arith, nat_tests)

-- a bank in which port k was merged
pub merges : (ps qs : Ports) (k new old : ℕ) → k < length ps → qs ≡ slice_set ps k (record { byte = merged (port_at ps k).mask new old; mask = (port_at ps k).mask }) → Merges k new old ps qs
merges ps qs k new old h e =
    let p : Port = record { byte = merged (port_at ps k).mask new old; mask = (port_at ps k).mask } in
    let at : port_at qs k ≡ p = ap (λ (z : Ports). port_at z k) e ∙ get_or-set_same ps k p blank h in
    record {
      byte = λ j. ap (λ (z : Port). bit z.byte j) at ∙ merged_mixed (port_at ps k).mask new old j;
      mask = ap (λ (z : Port). z.mask) at;
      others = λ j n. ap (λ (z : Ports). port_at z j) e ∙ get_or-set_other ps k j p blank n;
    }

stored_at : (bytes : List ℕ) (k : ℕ) → k < length bytes → port_at (stored_ports bytes) k ≡ stored (slice_index bytes k)
stored_at bytes k h = get_or-map stored bytes k 0 blank h

-- byte k merged by a mask of ones is port k merged by its own mask
stored_merged : (bytes : List ℕ) (k v : ℕ) (mix : ℕ → ℕ → ℕ) → k < length bytes → v ≡ mix 255 (slice_index bytes k) → stored_ports (slice_set bytes k v) ≡ slice_set (stored_ports bytes) k (record { byte = mix (port_at (stored_ports bytes) k).mask (port_at (stored_ports bytes) k).byte; mask = (port_at (stored_ports bytes) k).mask })
stored_merged bytes k v mix h e =
    map-set stored bytes k v
    ∙ ap (λ (p : Port). set (stored_ports bytes) k p) (ap stored e ∙ ap (λ (p : Port). record { byte = mix p.mask p.byte; mask = p.mask }) (sym (stored_at bytes k h)))

abbrev mixed_at : (ℕ → ℕ) → (ℕ → ℕ) → ℕ → Ports → Ports
mixed_at new old k ps =
    slice_set ps k (record { byte = merged (port_at ps k).mask (new (port_at ps k).byte) (old (port_at ps k).byte); mask = (port_at ps k).mask })

-- what a write or a drive leaves of storage: new and old are made of the byte that was there
pub stored_mixed : (bytes : List ℕ) (k v : ℕ) (new old : ℕ → ℕ) → length bytes ≡ 256 → k < 256 → v ≡ merged 255 (new (slice_index bytes k)) (old (slice_index bytes k)) → (stored_ports (slice_set bytes k v) ≡ mixed_at new old k (stored_ports bytes)) × Merges k (new (port_at (stored_ports bytes) k).byte) (old (port_at (stored_ports bytes) k).byte) (stored_ports bytes) (stored_ports (slice_set bytes k v))
stored_mixed bytes k v new old full h e =
    let ps = stored_ports bytes in
    let s = stored_merged bytes k v (λ (m b : ℕ). merged m (new b) (old b)) (omega (arith, full)) e in
    (s, merges ps _ k (new (port_at ps k).byte) (old (port_at ps k).byte) (omega (arith, length-map bytes stored, full)) s)
