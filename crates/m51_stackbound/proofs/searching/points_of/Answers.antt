use Rattle.m51_stackbound.proofs.Common.{first_points}
use Rattle.m51_stackbound.proofs.Reaching.{finds_ok, noted_differ}
use Rattle.m51_stackbound.proofs.searching.points_of.Goals as goal

pub search-requires : goal.search-requires
search-requires c =
    noted_differ c.args.layout.now c.args.image.now (first_points c.args.layout.now) _ c.in_ok-firsts.ensures

pub returns : goal.returns
returns c = finds_ok _ _ (first_points c.args.layout.now) _ c.in_ok-firsts.ensures _ c.search.ensures
