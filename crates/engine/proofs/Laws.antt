-- Every cycle keeps the laws. Assumes nothing.
use Rattle.std.proofs.Common.{◌≡◌, ℕ, zero, suc, ◌+◌, ◌-◌, ◌<◌, Bool, true, false, cond, eqb, ltb, ◌⊎◌, List, [], ◌∷◌, get_or, set, Some, None, Ok, Err, Option, Result, sym, refl, ap, ◌∙◌, subst, inl, inr, arith, get_or-set_other}
use Rattle.instructions.specs.declared.field.Side.{Side}
use Rattle.instructions.specs.declared.field.Side.TheVariants.{Left, Right}
use Rattle.instructions.specs.declared.register.Register.TheVariants.{R0, R10}
use Rattle.instructions.specs.declared.instruction.Source.{Source}
use Rattle.instructions.specs.declared.instruction.Destination.{Destination}
use Rattle.instructions.specs.declared.instruction.Destination.TheVariants as destination
use Rattle.instructions.specs.declared.instruction.Operation.{Operation}
use Rattle.instructions.specs.declared.instruction.Operation.TheVariants as operation
use Rattle.instructions.specs.declared.instruction.Instruction.{Instruction}
use Rattle.instructions.specs.declared.instruction.Instruction.TheVariants.{Alu, Xec, Nzt, Xmit, Jmp}
use Rattle.instructions.specs.Registers.{number_of}
use Rattle.bits.specs.Bits.{bit}
use Rattle.words.specs.Words.{meaning}
use Rattle.words.specs.Code.{words_in, word_at}
use Rattle.words.specs.Rebuilding.{destination_number}
use Rattle.words.proofs.Meanings.{result_number, meaning_spares_r10}
use Rattle.banks.specs.Ports.{Ports, merged, blank, port_at, written, written_at}
use Rattle.banks.proofs.Ports.{merged_mixed}
use Rattle.banks.specs.declared.port.Port.{Port}
use Rattle.effects.specs.Arithmetic.{result_byte, carry_byte}
use Rattle.effects.specs.Fields.{raised_by, field_mask}
use Rattle.effects.specs.Addresses.{next_address}
use Rattle.effects.specs.Usage.{source_side, whole_port}
use Rattle.engine.specs.declared.fault.EngineFault.{EngineFault}
use Rattle.engine.specs.States.{Core, State, register, ports_of, port_number, port_byte, stored, to, with_core, with_byte}
use Rattle.engine.specs.Effects.{source_byte, latch_side, bus_byte, delivered, transmitted, transmitted_to, overflowed, jumped, performed, served}
use Rattle.engine.specs.Cycles.{executed, cycle_of}
use Rattle.engine.specs.Laws.{KeepsAllButAddresses, OnePort, KeepsRegistersIf, Spares, KeepsOwn, KeepsOwnBits, is_add, InstructionLaws, CycleLaws}

-- a value set at a place is there, or the place is past the end and nothing changed
set_there : {A : Type 0} (xs : List A) (k : ℕ) (v d : A) → (get_or (set xs k v) k d ≡ v) ⊎ (get_or (set xs k v) k d ≡ get_or xs k d)
set_there [] k v d = inr refl
set_there (x ∷ xs) zero v d = inl refl
set_there (x ∷ xs) (suc k) v d = set_there xs k v d

keeps_all : (a : State) → KeepsAllButAddresses a a
keeps_all a = record { registers = refl; left_ready = refl; right_ready = refl; left = refl; right = refl }

-- what follows where two cases that differ would be equal
impossible : {P : Type 0} → ◌≡◌ {A = ℕ} 0 1 → P
impossible z = absurd (omega arith)

pub side_cases : (s t : Side) → (s ≡ t) ⊎ (s ≡ t → ⊥)
side_cases Left Left = inl refl
side_cases Left Right = inr (λ e. impossible cc)
side_cases Right Left = inr (λ e. impossible cc)
side_cases Right Right = inl refl

same_cond : (t : Bool) (x y z : ℕ) → x ≡ z → y ≡ z → cond t x y ≡ z
same_cond true x y z e f = e
same_cond false x y z e f = f

pub mask_written : (ps : Ports) (k v : ℕ) → (port_at (written_at k v ps) k).mask ≡ (port_at ps k).mask
mask_written ps k v =
    elim (set_there ps k (written v (port_at ps k)) blank) [
      | inl e ↦ ap (λ (p : Port). p.mask) e
      | inr e ↦ ap (λ (p : Port). p.mask) e
    ]

-- a bit of a written port is as it was if it is not writable, or if what is written has it too
bit-written : (ps : Ports) (k v j : ℕ) → (bit (port_at ps k).mask j ≡ 0) ⊎ (bit v j ≡ bit (port_at ps k).byte j) → bit (port_at (written_at k v ps) k).byte j ≡ bit (port_at ps k).byte j
bit-written ps k v j h =
    let p = port_at ps k in
    let same : bit (merged p.mask v p.byte) j ≡ bit p.byte j =
    merged_mixed p.mask v p.byte j
    ∙ elim h [
      | inl e ↦ ap (λ m. cond (eqb m 1) (bit v j) (bit p.byte j)) e
      | inr e ↦ same_cond (eqb (bit p.mask j) 1) (bit v j) (bit p.byte j) (bit p.byte j) e refl
    ] in
    elim (set_there ps k (written v p) blank) [
      | inl e ↦ ap (λ (q : Port). bit q.byte j) e ∙ same
      | inr e ↦ ap (λ (q : Port). bit q.byte j) e
    ]

-- banks that are unchanged
no_port : (a b : State) → ((side : Side) → ports_of side b ≡ ports_of side a) → OnePort a b
no_port a b same =
    record {
      bank = Left;
      port = 0;
      others = λ side k n. ap (λ (ps : Ports). port_at ps k) (same side);
      mask = ap (λ (ps : Ports). (port_at ps 0).mask) (same Left);
      fixed = λ j e. ap (λ (ps : Ports). bit (port_at ps 0).byte j) (same Left);
    }

-- banks of which one was written at one port
pub record WrittenOnce (a b : State) (side : Side) (k v : ℕ) : Type 0 where
  pub here : ports_of side b ≡ written_at k v (ports_of side a)
  pub there : (s : Side) → (s ≡ side → ⊥) → ports_of s b ≡ ports_of s a

one_port : (a b : State) (side : Side) (k v : ℕ) → WrittenOnce a b side k v → OnePort a b
one_port a b side k v w =
    let at = λ (f : Ports → ℕ). ap f w.here in
    record {
      bank = side;
      port = k;
      others = λ s i n.
          elim (side_cases s side) [
            | inl e ↦ subst (λ (t : Side). port_at (ports_of t b) i ≡ port_at (ports_of t a) i) (sym e) (ap (λ (ps : Ports). port_at ps i) w.here ∙ get_or-set_other (ports_of side a) k i (written v (port_at (ports_of side a) k)) blank (λ f. n (e, f)))
            | inr e ↦ ap (λ (ps : Ports). port_at ps i) (w.there s e)
          ];
      mask = at (λ (ps : Ports). (port_at ps k).mask) ∙ mask_written (ports_of side a) k v;
      fixed = λ j e. at (λ (ps : Ports). bit (port_at ps k).byte j) ∙ bit-written (ports_of side a) k v j (inl e);
    }

-- the processor and the banks, after a write and a jump
pub core-with_byte : (side : Side) (v : ℕ) (a : State) → (with_byte side v a).core ≡ a.core
core-with_byte Left v a = refl
core-with_byte Right v a = refl

pub ports-with_core : (side : Side) (f : Core → Core) (a : State) → ports_of side (with_core f a) ≡ ports_of side a
ports-with_core Left f a = refl
ports-with_core Right f a = refl

touched : (side : Side) (f : Core → Core) (v : ℕ) (a : State) → ports_of side (with_core f (with_byte side v a)) ≡ written_at (port_number side a) v (ports_of side a)
touched Left f v a = refl
touched Right f v a = refl

untouched : (side : Side) (f : Core → Core) (v : ℕ) (a : State) (s : Side) → (s ≡ side → ⊥) → ports_of s (with_core f (with_byte side v a)) ≡ ports_of s a
untouched Left f v a Left n = absurd (n refl)
untouched Left f v a Right n = refl
untouched Right f v a Left n = refl
untouched Right f v a Right n = absurd (n refl)

-- before and after a write the processor may change, but not the number of the selected port
pub written_once : (side : Side) (f g : Core → Core) (v : ℕ) (a : State) → port_number side (with_core g a) ≡ port_number side a → WrittenOnce a (with_core f (with_byte side v (with_core g a))) side (port_number side a) v
written_once side f g v a e =
    let x = with_core g a in
    record {
      here = touched side f v x ∙ ap (λ k. written_at k v (ports_of side x)) e ∙ ap (λ (ps : Ports). written_at (port_number side a) v ps) (ports-with_core side g a);
      there = λ s n. untouched side f v x s n ∙ ports-with_core s g a;
    }

pub port_overflowed : (side : Side) (c : Option ℕ) (a : State) → port_number side (with_core (overflowed c) a) ≡ port_number side a
port_overflowed side None a = refl
port_overflowed Left (Some v) a = get_or-set_other a.core.registers 8 7 v 0 (λ e. absurd (omega (arith, e)))
port_overflowed Right (Some v) a = get_or-set_other a.core.registers 8 15 v 0 (λ e. absurd (omega (arith, e)))

pub keeps_own : (d : Destination) (origin : Option Side) (v : ℕ) (c : Option ℕ) (f : Core → Core) (a : State) → KeepsOwn d origin a (with_core f (delivered d v origin (with_core (overflowed c) a)))
keeps_own (destination.Register r) origin v c f a = tt
keeps_own (destination.Field x) origin v c f a = λ e j z.
    let side = x.side in
    let o = with_core (overflowed c) a in
    let k = port_number side a in
    let w = bus_byte x v (port_byte (latch_side origin x) o) in
    let own : port_byte (latch_side origin x) o ≡ (port_at (ports_of side a) k).byte =
    ap (λ (s : Side). port_byte s o) e ∙ ap (λ (ps : Ports). (port_at ps (port_number side o)).byte) (ports-with_core side (overflowed c) a) ∙ ap (λ n. (port_at (ports_of side a) n).byte) (port_overflowed side c a) in
    let outside : bit w j ≡ bit (port_at (ports_of side a) k).byte j =
    merged_mixed (field_mask x) (raised_by (7 - x.bit) v) (port_byte (latch_side origin x) o) j
    ∙ ap (λ m. cond (eqb m 1) (bit (raised_by (7 - x.bit) v) j) (bit (port_byte (latch_side origin x) o) j)) z
    ∙ ap (λ n. bit n j) own in
    ap (λ (ps : Ports). bit (port_at ps k).byte j) (written_once side f (overflowed c) w a (port_overflowed side c a)).here
    ∙ bit-written (ports_of side a) k w j (inr outside)

port_delivered : (d : Destination) (origin : Option Side) (v : ℕ) (c : Option ℕ) (f : Core → Core) (a : State) → OnePort a (with_core f (delivered d v origin (with_core (overflowed c) a)))
port_delivered (destination.Register r) origin v c f a = no_port a _ (λ side. ports-with_core side (λ (k : Core). f (stored r v (overflowed c k))) a)
port_delivered (destination.Field x) origin v c f a =
    one_port a _ x.side (port_number x.side a) _ (written_once x.side f (overflowed c) (bus_byte x v (port_byte (latch_side origin x) (with_core (overflowed c) a))) a (port_overflowed x.side c a))

-- R10 changes only by a carry, which is 0 or 1
r10_delivered : (d : Destination) (origin : Option Side) (v : ℕ) (a : State) → (destination_number d ≡ 8 → ⊥) → register R10 (delivered d v origin a) ≡ register R10 a
r10_delivered (destination.Register r) origin v a n = get_or-set_other a.core.registers (number_of r) 8 v 0 (λ e. n (sym e))
r10_delivered (destination.Field f) origin v a n = ap (λ (c : Core). get_or c.registers 8 0) (core-with_byte f.side (bus_byte f v (port_byte (latch_side origin f) a)) a)

small : (t : Bool) → cond t 1 0 < 2
small true = omega arith
small false = omega arith

r10_small : (o : Operation) (x y : ℕ) (a : State) → register R10 a < 2 → register R10 (with_core (overflowed (carry_byte o x y)) a) < 2
r10_small operation.Move x y a h = h
r10_small operation.And x y a h = h
r10_small operation.Xor x y a h = h
r10_small operation.Add x y a h =
    elim (set_there a.core.registers 8 (cond (ltb 255 (x + y)) 1 0) 0) [
      | inl e ↦ subst (λ n. n < 2) (sym e) (small (ltb 255 (x + y)))
      | inr e ↦ subst (λ n. n < 2) (sym e) h
    ]

r10_kept : (o : Operation) (x y : ℕ) (a : State) → is_add o ≡ false → register R10 (with_core (overflowed (carry_byte o x y)) a) ≡ register R10 a
r10_kept operation.Move x y a h = refl
r10_kept operation.And x y a h = refl
r10_kept operation.Xor x y a h = refl
r10_kept operation.Add x y a h = impossible cc

laws_alu : (o : Operation) (s : Source) (d : Destination) (a : State) → (destination_number d ≡ 8 → ⊥) → InstructionLaws (Alu o s d) a (performed (Alu o s d) a)
laws_alu o s d a n =
    let x = source_byte s a in
    let y = register R0 a in
    let v = result_byte o x y in
    let c = carry_byte o x y in
    let p = with_core (overflowed c) a in
    let r10 = r10_delivered d (source_side s) v p n in
    let on = to (next_address a.core.pc) (next_address a.core.pc) in
    record {
      spares = tt;
      own_bits = keeps_own d (source_side s) v c on a;
      only_add_sets_r10 = λ e. r10 ∙ r10_kept o x y a e;
      r10_is_a_bit = λ h. subst (λ m. m < 2) (sym r10) (r10_small o x y a h);
      one_port = port_delivered d (source_side s) v c on a;
    }

-- transmits, by the port that is written whole, if any
registers_transmitted : (q : Option Side) (d : Destination) (j : ℕ) (a : State) → KeepsRegistersIf q a (transmitted_to q d j a)
registers_transmitted None d j a = tt
registers_transmitted (Some side) d j a = ap (λ (c : Core). c.registers) (core-with_byte side j a)

registers_jumped : (q : Option Side) (n : ℕ) (a b : State) → KeepsRegistersIf q a b → KeepsRegistersIf q a (jumped n b)
registers_jumped None n a b h = tt
registers_jumped (Some side) n a b h = h

r10_transmitted : (q : Option Side) (d : Destination) (j : ℕ) (a : State) → (destination_number d ≡ 8 → ⊥) → register R10 (transmitted_to q d j a) ≡ register R10 a
r10_transmitted None d j a n = r10_delivered d None j a n
r10_transmitted (Some side) d j a n = ap (λ (c : Core). get_or c.registers 8 0) (core-with_byte side j a)

port_transmitted : (q : Option Side) (d : Destination) (j : ℕ) (f : Core → Core) (a : State) → OnePort a (with_core f (transmitted_to q d j a))
port_transmitted None d j f a = port_delivered d None j None f a
port_transmitted (Some side) d j f a = one_port a _ side (port_number side a) j (written_once side f (λ (c : Core). c) j a refl)

own_transmitted : (d : Destination) (j : ℕ) (f : Core → Core) (a : State) → KeepsOwn d None a (with_core f (transmitted d j a))
own_transmitted (destination.Register r) j f a = tt
own_transmitted (destination.Field x) j f a = keeps_own (destination.Field x) None j None f a

laws_xmit : (j : ℕ) (d : Destination) (a : State) → (destination_number d ≡ 8 → ⊥) → InstructionLaws (Xmit j d) a (performed (Xmit j d) a)
laws_xmit j d a n =
    let next = next_address a.core.pc in
    let r10 = r10_transmitted (whole_port d) d j a n in
    record {
      spares = registers_jumped (whole_port d) next a (transmitted d j a) (registers_transmitted (whole_port d) d j a);
      own_bits = own_transmitted d j (to next next) a;
      only_add_sets_r10 = λ e. r10;
      r10_is_a_bit = λ h. subst (λ m. m < 2) (sym r10) h;
      one_port = port_transmitted (whole_port d) d j (to next next) a;
    }

-- instructions that only jump
laws_jump : (i : Instruction) (p q : ℕ) (a : State) → Spares i a (with_core (to p q) a) → KeepsOwnBits i a (with_core (to p q) a) → InstructionLaws i a (with_core (to p q) a)
laws_jump i p q a s o =
    record {
      spares = s;
      own_bits = o;
      only_add_sets_r10 = λ e. refl;
      r10_is_a_bit = λ h. h;
      one_port = no_port a _ (λ side. ports-with_core side (to p q) a);
    }

keeps_jumped : (p q : ℕ) (a : State) → KeepsAllButAddresses a (with_core (to p q) a)
keeps_jumped p q a = record { registers = refl; left_ready = refl; right_ready = refl; left = refl; right = refl }

pub laws_performed : (i : Instruction) (a : State) → (result_number i ≡ 8 → ⊥) → InstructionLaws i a (performed i a)
laws_performed (Alu o s d) a n = laws_alu o s d a n
laws_performed (Xmit j d) a n = laws_xmit j d a n
laws_performed (Nzt s j) a n = laws_jump (Nzt s j) _ _ a (keeps_jumped _ _ a) tt
laws_performed (Xec s j) a n = laws_jump (Xec s j) _ _ a (keeps_jumped _ _ a, refl) tt
laws_performed (Jmp m) a n = laws_jump (Jmp m) _ _ a (keeps_jumped _ _ a) tt

-- a refused instruction
registers_same : (q : Option Side) (a : State) → KeepsRegistersIf q a a
registers_same None a = tt
registers_same (Some side) a = refl

spares_same : (i : Instruction) (a : State) → Spares i a a
spares_same (Alu o s d) a = tt
spares_same (Xmit j d) a = registers_same (whole_port d) a
spares_same (Nzt s j) a = keeps_all a
spares_same (Xec s j) a = (keeps_all a, refl)
spares_same (Jmp m) a = keeps_all a

own_same : (d : Destination) (origin : Option Side) (a : State) → KeepsOwn d origin a a
own_same (destination.Register r) origin a = tt
own_same (destination.Field f) origin a = λ e j z. refl

own_bits_same : (i : Instruction) (a : State) → KeepsOwnBits i a a
own_bits_same (Alu o s d) a = own_same d (source_side s) a
own_bits_same (Xmit j d) a = own_same d None a
own_bits_same (Nzt s j) a = tt
own_bits_same (Xec s j) a = tt
own_bits_same (Jmp m) a = tt

laws_refused : (i : Instruction) (a : State) → InstructionLaws i a a
laws_refused i a =
    record {
      spares = spares_same i a;
      own_bits = own_bits_same i a;
      only_add_sets_r10 = λ e. refl;
      r10_is_a_bit = λ h. h;
      one_port = no_port a a (λ side. refl);
    }

-- what a cycle answers and leaves
abbrev pub Outcome : Type 0
Outcome = Result (Unit {0}) EngineFault × State

abbrev Lawful : List ℕ → Bool → Bool → State → Outcome → Type 0
Lawful code reset halt a o = CycleLaws code reset halt a o.0 o.1

-- a cycle in which neither line is active
laws_idle : (code : List ℕ) (a : State) (r : Result (Unit {0}) EngineFault) (b : State) → ((f : EngineFault) → r ≡ Err f → b ≡ a) → ((i : Instruction) → meaning (word_at code a.core.ar) ≡ Some i → InstructionLaws i a b) → CycleLaws code false false a r b
laws_idle code a r b refused word =
    record {
      reset_only_addresses = λ e. impossible cc;
      reset_to_zero = λ e. impossible cc;
      halt_changes_nothing = λ e h. impossible cc;
      refusal_changes_nothing = refused;
      word_keeps_laws = λ i w. word i w.1.1;
    }

laws_unchanged : (code : List ℕ) (a : State) (r : Result (Unit {0}) EngineFault) → CycleLaws code false false a r a
laws_unchanged code a r = laws_idle code a r a (λ f e. refl) (λ i e. laws_refused i a)

laws_served : (code : List ℕ) (a : State) (i : Instruction) (t : Bool) (f : EngineFault) → meaning (word_at code a.core.ar) ≡ Some i → Lawful code false false a (cond {A = Outcome} t (Ok tt, performed i a) (Err f, a))
laws_served code a i false f m = laws_unchanged code a (Err f)
laws_served code a i true f m =
    laws_idle code a (Ok tt) (performed i a)
    (λ g e. impossible cc)
    (λ j e. let same : i ≡ j = cc in subst (λ (k : Instruction). InstructionLaws k a (performed i a)) same (laws_performed i a (meaning_spares_r10 (word_at code a.core.ar) i m)))

laws_executed : (code : List ℕ) (a : State) (m : Option Instruction) → meaning (word_at code a.core.ar) ≡ m → Lawful code false false a (executed m a)
laws_executed code a None m = laws_unchanged code a _
laws_executed code a (Some i) m = laws_served code a i (served i a.core) _ m

laws_stepped : (code : List ℕ) (a : State) (t : Bool) (f : EngineFault) → Lawful code false false a (cond {A = Outcome} t (executed (meaning (word_at code a.core.ar)) a) (Err f, a))
laws_stepped code a true f = laws_executed code a (meaning (word_at code a.core.ar)) refl
laws_stepped code a false f = laws_unchanged code a (Err f)

laws_cycled : (code : List ℕ) (reset halt : Bool) (a : State) → Lawful code reset halt a (cycle_of code reset halt a)
laws_cycled code false false a = laws_stepped code a (ltb a.core.ar (words_in code)) _
laws_cycled code true halt a =
    record {
      reset_only_addresses = λ e. keeps_jumped 0 0 a;
      reset_to_zero = λ e. (refl, refl);
      halt_changes_nothing = λ e h. impossible cc;
      refusal_changes_nothing = λ f e. impossible cc;
      word_keeps_laws = λ i w. let u = w.0 in impossible cc;
    }
laws_cycled code false true a =
    record {
      reset_only_addresses = λ e. keeps_all a;
      reset_to_zero = λ e. impossible cc;
      halt_changes_nothing = λ e h. refl;
      refusal_changes_nothing = λ f e. refl;
      word_keeps_laws = λ i w. laws_refused i a;
    }

pub cycle_keeps_laws : (code : List ℕ) (reset halt : Bool) (a : State) (r : Result (Unit {0}) EngineFault) (b : State) → ◌≡◌ {A = Outcome} (r, b) (cycle_of code reset halt a) → CycleLaws code reset halt a r b
cycle_keeps_laws code reset halt a r b e = subst (Lawful code reset halt a) (sym e) (laws_cycled code reset halt a)
