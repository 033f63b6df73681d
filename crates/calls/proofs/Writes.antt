-- An instruction writes no bit outside its cover. Assumes nothing.
use Rattle.std.proofs.Common.{◌≡◌, ℕ, ◌<◌, cond, Some, None, Option, sym, refl, subst, inl, inr, arith}
use Rattle.instructions.specs.declared.field.Field.{Field}
use Rattle.instructions.specs.declared.field.Side.{Side}
use Rattle.instructions.specs.declared.field.Side.TheVariants.{Left, Right}
use Rattle.instructions.specs.declared.instruction.Destination.{Destination}
use Rattle.instructions.specs.declared.instruction.Destination.TheVariants as destination
use Rattle.instructions.specs.declared.instruction.Instruction.{Instruction}
use Rattle.instructions.specs.declared.instruction.Instruction.TheVariants.{Alu, Xec, Nzt, Xmit, Jmp}
use Rattle.bits.specs.Bits.{bit}
use Rattle.std.proofs.lemmas.Nat.Bits.{bit_at_ones}
use Rattle.banks.specs.Ports.{Ports, port_at}
use Rattle.effects.specs.Fields.{field_mask}
use Rattle.effects.specs.Usage.{same_side, source_side, whole_port}
use Rattle.engine.specs.States.{Core, State, ports_of, port_number, port_byte, stored, to, with_core}
use Rattle.engine.specs.Effects.{latch_side, delivered, transmitted_to, overflowed, performed}
use Rattle.engine.proofs.Laws.{side_cases, WrittenOnce, written_once, ports-with_core, port_overflowed, keeps_own}
use Rattle.flow.specs.Breaches.{Cover, cover_from, field_cover, port_cover, cover}
use Rattle.calls.proofs.Ports.{Alongside, alongside_written}

-- no port was written, or the selected one of the cover's bank, and there no bit outside the cover
abbrev pub Covered : Cover → State → State → Type 0
Covered None a b = (side : Side) → ports_of side b ≡ ports_of side a
Covered (Some c) a b =
    (v : ℕ) × (WrittenOnce a b c.0 (port_number c.0 a) v
    × ((j : ℕ) → j < 8 → bit c.1 j ≡ 0 → bit (port_at (ports_of c.0 b) (port_number c.0 a)).byte j ≡ bit (port_byte c.0 a) j))

-- a cover of all eight bits leaves none out
whole_has : (j : ℕ) → j < 8 → bit 255 j ≡ 0 → ⊥
whole_has j h z = omega (arith, bit_at_ones 8 j h)

same_or_whole : (b side : Side) (m j : ℕ) → j < 8 → bit (cond (same_side b side) m 255) j ≡ 0 → (b ≡ side) × (bit m j ≡ 0)
same_or_whole Left Left m j h z = (refl, z)
same_or_whole Left Right m j h z = absurd (whole_has j h z)
same_or_whole Right Left m j h z = absurd (whole_has j h z)
same_or_whole Right Right m j h z = (refl, z)

-- a bit outside the cover is outside the field, and the bits around the field come from the port itself
latch_own : (origin : Option Side) (f : Field) (j : ℕ) → j < 8 → bit (cover_from origin f) j ≡ 0 → (latch_side origin f ≡ f.side) × (bit (field_mask f) j ≡ 0)
latch_own None f j h z = (refl, z)
latch_own (Some b) f j h z = same_or_whole b f.side (field_mask f) j h z

delivered_covered : (d : Destination) (origin : Option Side) (v : ℕ) (c : Option ℕ) (g : Core → Core) (a : State) → Covered (field_cover origin d) a (with_core g (delivered d v origin (with_core (overflowed c) a)))
delivered_covered (destination.Register r) origin v c g a = λ side. ports-with_core side (λ (k : Core). g (stored r v (overflowed c k))) a
delivered_covered (destination.Field f) origin v c g a = (
  _,
  (
    written_once f.side g (overflowed c) _ a (port_overflowed f.side c a),
    λ j h z. let own = latch_own origin f j h z in keeps_own (destination.Field f) origin v c g a own.0 j own.1,
  ),
)

transmitted_covered : (q : Option Side) (d : Destination) (v : ℕ) (g : Core → Core) (a : State) → Covered (port_cover q d) a (with_core g (transmitted_to q d v a))
transmitted_covered None d v g a = delivered_covered d None v None g a
transmitted_covered (Some b) d v g a = (v, (written_once b g (λ (k : Core). k) v a refl, λ j h z. absurd (whole_has j h z)))

pub performed_covered : (i : Instruction) (a : State) → Covered (cover i) a (performed i a)
performed_covered (Alu o s d) a = delivered_covered d (source_side s) _ _ (to _ _) a
performed_covered (Xmit j d) a = transmitted_covered (whole_port d) d j (to _ _) a
performed_covered (Nzt s j) a = λ side. ports-with_core side (to _ _) a
performed_covered (Xec s j) a = λ side. ports-with_core side (to _ _) a
performed_covered (Jmp n) a = λ side. ports-with_core side (to _ _) a

-- the cover has none of some bits of the port that is selected
abbrev pub Avoids : (Side → ℕ → ℕ → Type 0) → Cover → State → Type 0
Avoids Among None a = Unit {0}
Avoids Among (Some c) a = (j : ℕ) → Among c.0 (port_number c.0 a) j → (j < 8) × (bit c.1 j ≡ 0)

pub alongside_covered : (Among : Side → ℕ → ℕ → Type 0) (c : Cover) (a b : State) (side : Side) (qs : Ports) → Covered c a b → Avoids Among c a → Alongside (Among side) (ports_of side a) qs → Alongside (Among side) (ports_of side b) qs
alongside_covered Among None a b side qs w n same = subst (λ (ps : Ports). Alongside (Among side) ps qs) (sym (w side)) same
alongside_covered Among (Some c) a b side qs w n same =
    elim (side_cases side c.0) [
      | inl e ↦
          subst (λ (s : Side). Alongside (Among s) (ports_of s b) qs) (sym e)
          (alongside_written (Among c.0) (ports_of c.0 a) qs (subst (λ (s : Side). Alongside (Among s) (ports_of s a) qs) e same)
          (ports_of c.0 b) (port_number c.0 a) w.0 w.1.0.here
          (λ j h. let z = n j h in w.1.1 j z.0 z.1))
      | inr e ↦ subst (λ (ps : Ports). Alongside (Among side) ps qs) (sym (w.1.0.there side e)) same
    ]
