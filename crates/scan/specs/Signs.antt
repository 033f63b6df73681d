-- What shows a breach: the instruction that runs, the word that is reached, the address. Assumes nothing.
--   earlier x y                the one that is told first
--   Strays o n s p i           the instruction i, run at p from the state s, may go on outside an image of n words
--   RunShows o n grants s p i k        the instruction i shows the breach k as it runs there
--   RunsFrom code a i          the word at a is the instruction i, and no XEC
--   WordShows o code grants s p a k    the word at a shows it as it is reached from p
--   HereShows here s k         what stands at p, `here`, shows it whatever it reaches: it uses a bank that may be unready
--   ReachedShows o code grants s p here a k   the word at a is reached from p, where `here` stands, and shows it
--   Below n P                  some number below n has P
--   ShownBelow o code grants s p here a k   `here` shows it, or a word below a that is reached
use Rattle.std.specs.Prelude.{◌≡◌, ℕ, ◌<◌, ◌≤◌, true, false, cond, ◌⊎◌, List, Some, None, Option, nat_lt}
use Rattle.instructions.specs.declared.instruction.Instruction.{Instruction}
use Rattle.words.specs.Code.{words_in}
use Rattle.operands.specs.Operations.{Operations}
use Rattle.flow.specs.declared.breach.Breach.{Breach}
use Rattle.flow.specs.declared.breach.Breach.TheVariants.{NotPermitted, Outside, Chain, Unready, Withheld}
use Rattle.flow.specs.States.{State}
use Rattle.flow.specs.Ways.{instruction_at, is_xec, ReachesBy, Next}
use Rattle.flow.specs.Breaches.{cover, Exceeds, UsesUnready, order}

abbrev pub earlier_of : Breach → Option Breach → Option Breach
earlier_of x None = Some x
earlier_of x (Some y) = cond (nat_lt (order y) (order x)) (Some y) (Some x)

abbrev pub earlier : Option Breach → Option Breach → Option Breach
earlier None y = y
earlier (Some x) y = earlier_of x y

abbrev pub Strays : {K : Type 0} → Operations K → ℕ → State → ℕ → Instruction → Type 0
Strays o n s p i = (q : ℕ) × (Next o i s p q × (n ≤ q))

abbrev pub RunShows : {K : Type 0} → Operations K → ℕ → List ℕ → State → ℕ → Instruction → Breach → Type 0
RunShows o n grants s p i NotPermitted = ⊥
RunShows o n grants s p i Outside = Strays o n s p i
RunShows o n grants s p i Chain = ⊥
RunShows o n grants s p i Unready = UsesUnready i s
RunShows o n grants s p i Withheld = Exceeds grants (cover i) s

abbrev pub RunsFrom : List ℕ → ℕ → Instruction → Type 0
RunsFrom code a i = (a < words_in code) × ((instruction_at code a ≡ Some i) × (is_xec i ≡ false))

abbrev pub WordShows : {K : Type 0} → Operations K → List ℕ → List ℕ → State → ℕ → ℕ → Breach → Type 0
WordShows o code grants s p a NotPermitted = (a < words_in code) × (instruction_at code a ≡ None)
WordShows o code grants s p a Outside =
    (words_in code ≤ a) ⊎ ((i : Instruction) × (RunsFrom code a i × Strays o (words_in code) s p i))
WordShows o code grants s p a Chain =
    (a < words_in code) × ((i : Instruction) × ((instruction_at code a ≡ Some i) × (is_xec i ≡ true)))
WordShows o code grants s p a Unready = (i : Instruction) × (RunsFrom code a i × UsesUnready i s)
WordShows o code grants s p a Withheld = (i : Instruction) × (RunsFrom code a i × Exceeds grants (cover i) s)

abbrev pub HereShows : Option Instruction → State → Breach → Type 0
HereShows here s NotPermitted = ⊥
HereShows here s Outside = ⊥
HereShows here s Chain = ⊥
HereShows here s Unready = (i : Instruction) × ((here ≡ Some i) × UsesUnready i s)
HereShows here s Withheld = ⊥

abbrev pub ReachedShows : {K : Type 0} → Operations K → List ℕ → List ℕ → State → ℕ → Option Instruction → ℕ → Breach → Type 0
ReachedShows o code grants s p here a k = ReachesBy o s p here a × WordShows o code grants s p a k

abbrev pub Below : ℕ → (ℕ → Type 0) → Type 0
Below n P = (a : ℕ) × ((a < n) × P a)

abbrev pub ShownBelow : {K : Type 0} → Operations K → List ℕ → List ℕ → State → ℕ → Option Instruction → ℕ → Breach → Type 0
ShownBelow o code grants s p here a k =
    HereShows here s k ⊎ Below a (λ b. ReachedShows o code grants s p here b k)
