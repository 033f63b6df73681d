-- What is cut to a length twice is cut to it once.
use Rattle.std.proofs.Common.{◌≡◌, ℕ, List, Option, Some, None, IfSome, take, ap, ◌∙◌, arith}
use Rattle.std.specs.Option.{option_map}
use Rattle.std.proofs.lemmas.List.{take-take}

pub cut_once : (limit : ℕ) (known : Option (List ℕ)) (given cut : List ℕ)
    → IfSome (option_map (take limit) known) (λ bs. given ≡ bs)
    → cut ≡ take limit given → IfSome known (λ bs. cut ≡ take limit bs)
cut_once limit None given cut h e = tt
cut_once limit (Some bs) given cut h e = e ∙ (ap (take limit) h ∙ take-take limit limit bs (omega arith))
