use Rattle.std.proofs.Common.{ℕ, sym, ◌∙◌, subst, Option}
use Rattle.stream.proofs.Heard.{plan-asks, Asked}
use Rattle.stream.proofs.Streamed.play.Goals as goal

pub sample-v-requires-clause-fact_1 : goal.sample-v-requires-clause-fact_1
sample-v-requires-clause-fact_1 c = c.requires.fact_1.plays c.in-Some.variant c.in-Some.is

pub sample-v-requires-clause-fact_3 : goal.sample-v-requires-clause-fact_3
sample-v-requires-clause-fact_3 c =
    let q = plan-asks c.args.self.cache.info c.args.p c.args.self.phase c.requires.fact_1.again in
    ((subst (λ (x : Option (ℕ × ℕ)). Asked c.args.self.cache.info.sample_count x) (sym c.plan_of-plan.ensures ∙ c.in-Some-plan.is) q).it)
