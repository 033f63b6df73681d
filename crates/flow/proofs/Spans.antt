-- Which words an instruction makes run. Assumes nothing.
use Rattle.std.proofs.Common.{◌≡◌, ℕ, ◌+◌, ◌*◌, ◌/◌, ◌<◌, ◌≤◌, Bool, Some, None, Decides, Option, sym, subst, arith}
use Rattle.instructions.specs.declared.instruction.Source.{Source}
use Rattle.instructions.specs.declared.instruction.Source.TheVariants as source
use Rattle.instructions.specs.declared.instruction.Instruction.{Instruction}
use Rattle.instructions.specs.declared.instruction.Instruction.TheVariants.{Alu, Xec, Nzt, Xmit, Jmp}
use Rattle.operands.specs.Bytes.{Bytes, Same}
use Rattle.operands.specs.Operations.{Operations}
use Rattle.effects.specs.Addresses.{page_size, in_page}
use Rattle.flow.specs.States.{State, source_bytes}
use Rattle.flow.specs.Ways.{Reaches, ReachesBy}
use Rattle.flow.specs.Spans.{first_target, target_count}

pub decides_executed : {K : Type 0} (o : Operations K) (i : Instruction) (x : Source) (j : ℕ) (s : State) (p a : ℕ) (P : Bytes) (r : Bool) → i ≡ Xec x j → Same P (source_bytes o x s) → Decides r ((b : ℕ) × (P b × (a ≡ in_page (page_size x) p (j + b)))) → Decides r (Reaches o s p i a)
decides_executed o i x j s p a P r e same d =
    subst (λ (k : Instruction). Decides r (Reaches o s p k a)) (sym e) (
      (λ t. let w = d.0 t in (w.0, (same.0 w.0 w.1.0, w.1.1))),
      (λ w. d.1 (w.0, (same.1 w.0 w.1.0, w.1.1))),
    )

in_page_above : (x : Source) (p v : ℕ) → p / page_size x * page_size x ≤ in_page (page_size x) p v
in_page_above (source.Register r n) p v = omega arith
in_page_above (source.Field f) p v = omega arith

in_page_below : (x : Source) (p v : ℕ) → in_page (page_size x) p v < p / page_size x * page_size x + page_size x
in_page_below (source.Register r n) p v = omega arith
in_page_below (source.Field f) p v = omega arith

-- what runs stands in the span
pub reaches_within : {K : Type 0} (o : Operations K) (s : State) (p : ℕ) (i : Option Instruction) (a : ℕ) → ReachesBy o s p i a → (first_target i p ≤ a) × (a < first_target i p + target_count i)
reaches_within o s p None a e = (omega arith, omega arith)
reaches_within o s p (Some (Alu f x d)) a e = (omega arith, omega arith)
reaches_within o s p (Some (Xmit j d)) a e = (omega arith, omega arith)
reaches_within o s p (Some (Nzt x j)) a e = (omega arith, omega arith)
reaches_within o s p (Some (Jmp j)) a e = (omega arith, omega arith)
reaches_within o s p (Some (Xec x j)) a e = (
  subst (λ n. p / page_size x * page_size x ≤ n) (sym e.1.1) (in_page_above x p (j + e.0)),
  subst (λ n. n < p / page_size x * page_size x + page_size x) (sym e.1.1) (in_page_below x p (j + e.0)),
)
