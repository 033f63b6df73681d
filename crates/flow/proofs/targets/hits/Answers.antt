use Rattle.std.proofs.Common.{◌≡◌, ℕ, ◌+◌, ◌-◌, ◌*◌, ◌/◌, ◌%◌, ◌<◌, ◌⊎◌, sym, subst, ⊎_elim, arith, rules}
use Rattle.flow.proofs.Ranges.{any_in_range}
use Rattle.flow.proofs.targets.hits.Goals as goal

abbrev least : ℕ → ℕ → ℕ → ℕ
least page offset place = (place + page - offset % page) % page

-- the least byte leads to the place, and so does each that lies pages above it
leads : (page offset place k : ℕ) → (page ≡ 32) ⊎ (page ≡ 256) → place < page → (offset + (least page offset place + page * k)) % page ≡ place
leads page offset place k sizes h =
    ⊎_elim
    (λ e. subst (λ n. (offset + (least n offset place + n * k)) % n ≡ place) (sym e) (omega arith))
    (λ e. subst (λ n. (offset + (least n offset place + n * k)) % n ≡ place) (sym e) (omega arith))
    sizes

-- and no other does
only : (page offset place b : ℕ) → (page ≡ 32) ⊎ (page ≡ 256) → b < 256 → (offset + b) % page ≡ place → (b ≡ least page offset place + page * (b / page)) × (b / page < 256 / page)
only page offset place b sizes small at =
    ⊎_elim
    (λ e. subst (λ n. (offset + b) % n ≡ place → (b ≡ least n offset place + n * (b / n)) × (b / n < 256 / n)) (sym e) (λ at. (omega (arith, at), omega arith)) at)
    (λ e. subst (λ n. (offset + b) % n ≡ place → (b ≡ least n offset place + n * (b / n)) × (b / n < 256 / n)) (sym e) (λ at. (omega (arith, at), omega arith)) at)
    sizes

pub returns : goal.returns
returns g c =
    let o = g.K.Operand.operations in
    let page = c.args.page in
    let low = least page c.args.offset c.args.place in
    let found = any_in_range _ _ _ c.any.result (λ k. o.has c.args.x (low + page * k)) c.any.ensures.ran (λ k f called. search rules) (λ k f called. search rules) in (
      λ t. let k = found.0 t in (low + page * k.0, (k.1.1.1, leads page c.args.offset c.args.place k.0 c.requires.pages c.requires.inside)),
      λ h.
          let b = h.0 in
          let at = only page c.args.offset c.args.place b c.requires.pages (g.K.Operand.lawful.bytes c.args.x b h.1.0) h.1.1 in
          found.1 (b / page, (omega arith, (at.1, subst (o.has c.args.x) at.0 h.1.0))),
    )
