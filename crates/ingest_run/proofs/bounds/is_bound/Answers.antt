use Rattle.std.proofs.Common.{◌≡◌, ℕ, Option, refl, subst, ◌∙◌, inl}
use Rattle.std.specs.Prelude.{◌↔◌, IsTrue}
use Rattle.ingest_run.proofs.BoundLaws.{bound_by}
use Rattle.ingest_run.proofs.bounds.is_bound.Goals as goal

pub returns-then-is_same : goal.returns-then-is_same
returns-then-is_same c = (λ h. inl (c.is_same.ensures.0 c.if-is_same.true ∙ c.end_of.ensures), λ b. refl)

pub returns : goal.returns
returns c =
    bound_by c.is_begun.result c.is_same.result c.args.upper c.args.appends.now c.is_begun.ensures
    (subst (λ (u : Option ℕ). IsTrue c.is_same.result ↔ (c.args.upper ≡ u)) c.end_of.ensures c.is_same.ensures) c.if-is_same.false
