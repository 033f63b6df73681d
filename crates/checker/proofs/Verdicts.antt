-- From growth and scan to the answer of the check. Assumes nothing.
use Rattle.std.proofs.Common.{◌≡◌, ℕ, ◌*◌, ◌<◌, List, length, take, drop, Some, None, Option, Ok, Err, sym, refl, subst, inl, inr, ⊎_elim, arith}
use Rattle.std.proofs.lemmas.Bool.{cases_lt}
use Rattle.image.specs.Parts.{part_bytes, IsCode, IsGrants}
use Rattle.image.specs.declared.part.Part.{Part}
use Rattle.image.specs.declared.part.Part.TheVariants.{Code, Grants}
use Rattle.words.specs.Code.{words_in}
use Rattle.operands.specs.Bytes.{Bytes}
use Rattle.operands.specs.Operations.{Operations, Lawful}
use Rattle.flow.specs.declared.breach.Breach.{Breach}
use Rattle.flow.specs.Tables.{table_of}
use Rattle.growth.specs.Memory.{entries_in}
use Rattle.growth.specs.Growth.{JoinIsLeast, Lacks, Grown}
use Rattle.scan.specs.declared.fault.ScanFault.{ScanFault}
use Rattle.scan.specs.declared.fault.ScanFault.TheVariants as scanned
use Rattle.scan.specs.Verdicts.{Clear, Lowest, Suffices, Scanned}
use Rattle.scan.proofs.Larger.{lowest_dooms}
use Rattle.calls.proofs.Promise.{promise_kept}
use Rattle.checker.specs.declared.fault.CheckFault.TheVariants as fault
use Rattle.checker.specs.declared.acceptance.Acceptance.{Acceptance}
use Rattle.checker.specs.Passing.{scan_passed}
use Rattle.checker.specs.Judging.{LeastTable, Judged}

-- a memory that lacks nothing has a word
some_word : {K : Type 0} (n : ℕ) (status : List ℕ) (operands : List K) → (Lacks n status operands → ⊥) → 0 < n
some_word n status operands room = ⊎_elim (λ h. h) (λ h. absurd (room (inl (omega arith)))) (cases_lt 0 n)

room_suffices : {K : Type 0} (n : ℕ) (status status' : List ℕ) (operands operands' : List K) → length status' ≡ length status → length operands' ≡ length operands → (Lacks n status operands → ⊥) → Suffices n status' operands'
room_suffices n status status' operands operands' es eo room =
    record {
      bytes = ⊎_elim (λ h. absurd (room (inr (inl h)))) (λ h. omega (arith, es, h)) (cases_lt (length status) n);
      cells = ⊎_elim (λ h. absurd (room (inr (inr h)))) (λ h. omega (arith, eo, h)) (cases_lt (length operands) (16 * n));
    }

module _ {K : Type 0} (o : Operations K) (l : Lawful o) (joined : K → K → Bytes) (least : JoinIsLeast o joined) (code grants status : List ℕ) (operands : List K) (status' : List ℕ) (operands' : List K) where
  -- growing answered that it reached k words: what it promises, in a memory that lacks room and in one that does not
  module _ (answer : Option ℕ) (k : ℕ) (some : answer ≡ Some k) (refused : Lacks (words_in code) status operands → (answer ≡ None) × ((status' ≡ status) × (operands' ≡ operands))) (grows : (Lacks (words_in code) status operands → ⊥) → (answer ≡ Some (entries_in status' (words_in code))) × Grown o joined code status operands status' operands') where
    room : Lacks (words_in code) status operands → ⊥
    room lacks = let e = (refused lacks).0 in let z : ◌≡◌ {A = ℕ} 0 1 = cc in absurd (omega arith)

    grown : Grown o joined code status operands status' operands'
    grown = (grows room).1

    counted : k ≡ entries_in status' (words_in code)
    counted = let e = (grows room).0 in cc

    left : LeastTable o code status operands status' operands'
    left =
        record {
          statuses = grown.tidy;
          rules = grown.rules;
          inside_every_other = grown.least least;
          past = grown.past;
          bare = grown.bare;
        }

    pub judged_clear : (words : ℕ) → words ≡ words_in code → Clear o code grants (table_of o status' operands') → Judged o code grants status operands status' operands' (Ok (record { words = words; reached = k }))
    judged_clear words w clear =
        let a : Acceptance = record { words = words; reached = k } in
        record {
          lacking = λ lacks. absurd (room lacks);
          table = λ _. left;
          accepted = λ b e.
              let same : a ≡ b = cc in
              (record { rules = grown.rules; clear = clear }, (subst (λ (x : Acceptance). x.words ≡ words_in code) same w, subst (λ (x : Acceptance). x.reached ≡ entries_in status' (words_in code)) same counted));
          promised = λ _ _. promise_kept o l code grants (table_of o status' operands') (some_word (words_in code) status operands room) (record { rules = grown.rules; clear = clear });
          exactly = λ _ t m. (a, refl);
          refused = λ _ f e. let z : ◌≡◌ {A = ℕ} 0 1 = cc in absurd (omega arith);
        }

    judged_found : (breach : Breach) (p : ℕ) → Lowest o code grants (table_of o status' operands') p breach → Judged o code grants status operands status' operands' (Err (fault.Breach breach p))
    judged_found breach p low =
        record {
          lacking = λ lacks. absurd (room lacks);
          table = λ _. left;
          accepted = λ a e. let z : ◌≡◌ {A = ℕ} 0 1 = cc in absurd (omega arith);
          promised = λ a e. let z : ◌≡◌ {A = ℕ} 0 1 = cc in absurd (omega arith);
          exactly = λ _ t m. absurd (lowest_dooms o l code grants (table_of o status' operands') p breach low (grown.least least) t m);
          refused = λ _ f e. (breach, (p, (sym (let same : fault.Breach breach p ≡ f = cc in same), low)));
        }

    -- what a scan of the grown table found
    pub judged_fault : (f : ScanFault) → length status' ≡ length status → length operands' ≡ length operands → Scanned o code grants status' operands' (Err f) → Judged o code grants status operands status' operands' (Err (scan_passed f))
    judged_fault scanned.Memory es eo s = absurd (s (room_suffices (words_in code) status status' operands operands' es eo room))
    judged_fault (scanned.Breach breach p) es eo s = judged_found breach p s.1

-- the bytes of the parts of an image
pub code_bytes : (file : List ℕ) (start n : ℕ) (x : Part) → IsCode file start n x → part_bytes x ≡ take n (drop start file)
code_bytes file start n (Code bytes place) h = h.1
code_bytes file start n (Grants bytes place) h = absurd h

pub grant_bytes : (file : List ℕ) (start n : ℕ) (x : Part) → IsGrants file start n x → part_bytes x ≡ take n (drop start file)
grant_bytes file start n (Code bytes place) h = absurd h
grant_bytes file start n (Grants bytes place) h = h.1
