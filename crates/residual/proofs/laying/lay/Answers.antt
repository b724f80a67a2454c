use Rattle.std.proofs.Common.{ℕ, ◌<◌, List, length, get_or, sym, subst, arith}
use Rattle.residual.proofs.Arcs.{heads_within}
use Rattle.residual.proofs.laying.lay.Goals as goal

pub pair-requires : goal.pair-requires
pair-requires c =
    record {
      ends = record {
        tails = λ k h. let w = c.requires.ends.tails k h in omega arith;
        heads = λ k h. let w = c.requires.ends.heads k h in omega arith;
      };
      sizes = (omega arith, (omega arith, omega arith));
    }

pub link-requires : goal.link-requires
link-requires c =
    record {
      sizes = (omega arith, (omega arith, omega arith));
      heads = subst (λ (hs : List ℕ). (a : ℕ) → a < length hs → get_or hs a 0 < length c.args.first.now) (sym c.pair.ensures.heads) (heads_within c.args.runs.now (length c.args.first.now) c.requires.ends);
    }
