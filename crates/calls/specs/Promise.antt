-- What a flow table promises of every list of calls. Assumes nothing.
--   Withheld grants side k j   the grants withhold bit j of port k of a bank
--   Held o code grants t st lone   what stands between any two calls: both addresses are inside the code, the table has an
--                        entry at the program counter, whose operands have what the registers hold, and withheld bits are those
--                        of the lone banks
--   Finishes code call st   the call is not refused, except a run that is too long, which changes nothing
--   Keeps o code grants t calls st lone   all calls of a list finish, and what is held stays held
--   Promise o code grants t   so it is from a new machine on, whatever its registers and its two banks hold
use Rattle.std.specs.Prelude.{◌≡◌, ℕ, ◌<◌, ◌≤◌, true, List, [], ◌∷◌, length, Some, None, Ok, slice_index}
use Rattle.instructions.specs.declared.field.Side.{Side}
use Rattle.operands.specs.Operations.{Operations}
use Rattle.bits.specs.Bits.{bit}
use Rattle.words.specs.Code.{words_in}
use Rattle.image.specs.Grants.{mask_of}
use Rattle.banks.specs.Ports.{Ports, port_at}
use Rattle.engine.specs.declared.fault.EngineFault.TheVariants.{RunLength}
use Rattle.engine.specs.States.{State, ports_of}
use Rattle.engine.specs.Cycles.{fresh, cycle_of}
use Rattle.engine.specs.Runs.{Ran, longest_run, run_call}
use Rattle.flow.specs.Tables.{Table}
use Rattle.calls.specs.Calls.{Call, drive, cycle, run, did, Lone, lone_ports, alone}

abbrev pub Withheld : List ℕ → Side → ℕ → ℕ → Type 0
Withheld grants side k j = (j < 8) × (bit (mask_of grants side k) j ≡ 0)

pub record Held {K : Type 0} (o : Operations K) (code grants : List ℕ) (t : Table K) (st : State) (lone : Lone) : Type 0 where
  pub pc_inside : st.core.pc < words_in code
  pub ar_inside : st.core.ar < words_in code
  pub entered : t.entry st.core.pc ≡ true
  pub members : (r : ℕ) → r < 16 → o.has (t.cell st.core.pc r) (slice_index st.core.registers r)
  pub withheld : (side : Side) (k j : ℕ) → Withheld grants side k j → bit (port_at (ports_of side st) k).byte j ≡ bit (port_at (lone_ports side lone) k).byte j

-- a run of a length that is served finishes all its cycles
pub record RunFinishes (n : ℕ) (st : State) (r : Ran) : Type 0 where
  pub served : n ≤ longest_run → (r.finished ≡ n) × (r.fault ≡ None)
  pub refused : longest_run < n → (r.finished ≡ 0) × (r.fault ≡ Some RunLength) × (r.after ≡ st)

abbrev pub Finishes : List ℕ → Call → State → Type 0
Finishes code (drive bank k v) st = Unit {0}
Finishes code (cycle reset halt) st = (cycle_of code reset halt st).0 ≡ Ok tt
Finishes code (run n) st = RunFinishes n st (run_call code n st)

abbrev pub Keeps : {K : Type 0} → Operations K → List ℕ → List ℕ → Table K → List Call → State → Lone → Type 0
Keeps o code grants t [] st lone = Held o code grants t st lone
Keeps o code grants t (call ∷ calls) st lone =
    Held o code grants t st lone × Finishes code call st × Keeps o code grants t calls (did code call st) (alone call lone)

abbrev pub Promise : {K : Type 0} → Operations K → List ℕ → List ℕ → Table K → Type 0
Promise o code grants t =
    (registers : List ℕ) → length registers ≡ 16 → ((k : ℕ) → slice_index registers k < 256)
    → (left right : Ports) → (calls : List Call)
    → Keeps o code grants t calls (record { core = fresh registers; left = left; right = right }) (record { left = left; right = right })
