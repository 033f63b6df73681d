-- Which faults a file is clear of as its grants are tried one by one. Assumes nothing.
use Rattle.std.proofs.Common.{◌≡◌, ℕ, zero, suc, ◌+◌, ◌*◌, ◌/◌, ◌<◌, ◌≤◌, List, [], length, get_or, take, drop, sym, refl, ap, ◌∙◌, subst, inl, inr, add-one, arith}
use Rattle.std.specs.Simd.{first_chunks}
use Rattle.std.proofs.lemmas.List.{get_or-take, get_or-drop}
use Rattle.image.specs.declared.part.Part.{Part}
use Rattle.image.specs.declared.part.Part.TheVariants.{Code, Grants}
use Rattle.image.specs.Parts.{IsGrants, part_bytes, part_place}
use Rattle.image.proofs.Chunks.{chunk_byte}
use Rattle.image.specs.declared.fault.FileFault.{FileFault}
use Rattle.image.specs.declared.fault.FileFault.TheVariants.{CodePlace, GrantPlace, Order}
use Rattle.image.specs.Files.{end_of_code, count_of_grants, start_of_grants, end_of_grants, entry_place, bank_at, port_at, spare_at, key_at}
use Rattle.image.specs.Entries.{IsSound, IsKey, IsRefused}
use Rattle.image.specs.Reading.{Clear, First, Faultless}

-- the least key that the k-th entry may have: above the key of the entry before it
unfoldable pub least_key : List ℕ → ℕ → ℕ
least_key file zero = 0
least_key file (suc j) = key_at file (entry_place file j) + 1

pub least_key_none : (file : List ℕ) → least_key file 0 ≡ 0
unfolding least_key
least_key_none file = refl

pub least_key_more : (file : List ℕ) (k : ℕ) → least_key file (k + 1) ≡ key_at file (entry_place file k) + 1
unfolding least_key
least_key_more file k = rw (add-one k)

-- the first k entries have no fault
pub record Tried (file : List ℕ) (k least : ℕ) : Type 0 where
  pub clear : Clear file (8 + 2 * entry_place file k)
  pub key : least ≡ least_key file k

pub end_of_code_le_length : (file : List ℕ) → Clear file 8 → end_of_code file ≤ length file
end_of_code_le_length file clear =
    let no : length file < end_of_code file → ⊥ = λ h. clear CodePlace (inr h) (omega arith) in omega arith

pub end_of_grants_le_length : (file : List ℕ) → Clear file 8 → end_of_grants file ≤ length file
end_of_grants_le_length file clear =
    let no : length file < end_of_grants file → ⊥ = λ h. clear GrantPlace (inr h) (omega arith) in omega arith

pub tried_none : (file : List ℕ) → Clear file 8 → Tried file 0 0
tried_none file clear = record { clear = λ g h lt. grind arith; key = sym (least_key_none file) }

clear_order : (file : List ℕ) (k : ℕ) → Clear file (8 + 2 * entry_place file k) → IsSound file (entry_place file k) → Clear file (9 + 2 * entry_place file k)
clear_order file k clear sound g h lt = grind arith

clear_more : (file : List ℕ) (k : ℕ) → Clear file (9 + 2 * entry_place file k) → least_key file k ≤ key_at file (entry_place file k) → Clear file (8 + 2 * entry_place file (k + 1))
unfolding least_key
clear_more file zero clear rises g h lt = grind arith
clear_more file (suc j) clear rises g h lt = grind arith

tried_key : (file : List ℕ) (k least key : ℕ) → Tried file k least → IsKey file (entry_place file k) least key → Tried file (k + 1) (key + 1)
tried_key file k least key tried h =
    record {
      clear = clear_more file k (clear_order file k tried.clear h.sound) (omega (arith, tried.key, h));
      key = omega (arith, least_key_more file k, h);
    }

pub tried_more : (file : List ℕ) (k least p key : ℕ) → p ≡ entry_place file k → Tried file k least → IsKey file p least key → Tried file (k + 1) (key + 1)
tried_more file k least p key at tried h = tried_key file k least key tried (subst (λ q. IsKey file q least key) at h)

-- an entry that does not follow the one before it
first_order : (file : List ℕ) (k least : ℕ) → k < count_of_grants file → Tried file k least → IsSound file (entry_place file k) → key_at file (entry_place file k) < least → First file (Order (entry_place file k))
unfolding least_key
first_order file zero least below tried sound falls = absurd (omega (arith, tried.key))
first_order file (suc j) least below tried sound falls =
    ((j, below, refl, omega (arith, tried.key)), clear_order file (suc j) tried.clear sound)

first_entry : (file : List ℕ) (k least : ℕ) (f : FileFault) → k < count_of_grants file → Tried file k least → IsRefused file (entry_place file k) (entry_place file k) least f → First file f
first_entry file k least f below tried (inl (is, why)) = subst (First file) (sym is) ((k, below, refl, why), tried.clear)
first_entry file k least f below tried (inr (is, sound, falls)) =
    subst (First file) (sym is) (first_order file k least below tried sound falls)

-- the first entry that is refused has the first fault
pub first_refused : (file : List ℕ) (k least p : ℕ) (f : FileFault) → p ≡ entry_place file k → k < count_of_grants file → Tried file k least → IsRefused file p p least f → First file f
first_refused file k least p f at below tried h =
    first_entry file k least f below tried (subst (λ q. IsRefused file q q least f) at h)

pub tried_all : (file : List ℕ) (least : ℕ) → Tried file (count_of_grants file) least → Faultless file
tried_all file least tried g h = grind arith

is_grants_fields : (file : List ℕ) (start n : ℕ) (x : Part) → IsGrants file start n x → (part_place x ≡ start) × (part_bytes x ≡ take n (drop start file)) × (length (part_bytes x) ≡ n)
is_grants_fields file start n (Code bytes place) h = absurd h
is_grants_fields file start n (Grants bytes place) h = h

pub grants_length : (file : List ℕ) (start n : ℕ) (x : Part) → IsGrants file start n x → length (part_bytes x) ≡ n
grants_length file start n x h = (is_grants_fields file start n x h).2

-- the entries of a grant part are the file's
entry_byte : (file : List ℕ) (part : Part) (entries : List (List ℕ)) (n k i p : ℕ) → IsGrants file (start_of_grants file) (4 * count_of_grants file) part → entries ≡ first_chunks 4 n (part_bytes part) → k < n → k < count_of_grants file → i < 4 → p ≡ entry_place file k + i → get_or (get_or entries k []) i 0 ≡ get_or file p 0
entry_byte file part entries n k i p h e lt below few at =
    let f = is_grants_fields file _ _ part h in
    chunk_byte (part_bytes part) entries n k i (4 * k + i) e lt few refl
    ∙ ap (λ g. get_or g (4 * k + i) 0) f.1
    ∙ get_or-take _ (drop (start_of_grants file) file) (4 * k + i) 0 (omega arith)
    ∙ get_or-drop (start_of_grants file) file (4 * k + i) 0
    ∙ ap (λ j. get_or file j 0) (omega arith)

-- the bytes of an entry, which stands at p in the file
pub record IsEntry (file entry : List ℕ) (p : ℕ) : Type 0 where
  pub bank : bank_at entry 0 ≡ bank_at file p
  pub port : port_at entry 0 ≡ port_at file p
  pub spare : spare_at entry 0 ≡ spare_at file p

-- the k-th entry, where it stands
pub entry_of_part : (file : List ℕ) (part : Part) (bytes : List ℕ) (entries : List (List ℕ)) (k : ℕ) → IsGrants file (start_of_grants file) (4 * count_of_grants file) part → bytes ≡ part_bytes part → entries ≡ first_chunks 4 (length bytes / 4) bytes → k < length bytes / 4 → (k < count_of_grants file) × (part_place part + 4 * k ≡ entry_place file k) × IsEntry file (get_or entries k []) (entry_place file k)
entry_of_part file part bytes entries k h same e lt =
    let f = is_grants_fields file _ _ part h in
    let below : k < count_of_grants file = omega (arith, ap length same, f.2) in
    let cut : entries ≡ first_chunks 4 (length bytes / 4) (part_bytes part) = e ∙ ap (first_chunks 4 (length bytes / 4)) same in
    let at : (i p : ℕ) → i < 4 → p ≡ entry_place file k + i → get_or (get_or entries k []) i 0 ≡ get_or file p 0 =
    λ i p few is. entry_byte file part entries _ k i p h cut lt below few is in (
      below,
      omega (arith, f.0),
      record {
        bank = at 0 _ (omega arith) (omega arith);
        port = at 1 _ (omega arith) refl;
        spare = at 3 _ (omega arith) refl;
      },
    )

pub key_of_entry : (file entry : List ℕ) (p least key : ℕ) → IsEntry file entry p → IsKey entry 0 least key → IsKey file p least key
key_of_entry file entry p least key at h = grind (arith, at, h)

pub refused_of_entry : (file entry : List ℕ) (p least : ℕ) (f : FileFault) → IsEntry file entry p → IsRefused entry 0 p least f → IsRefused file p p least f
refused_of_entry file entry p least f at h = grind (arith, at, h)
