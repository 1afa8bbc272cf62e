use Rattle.m51_module.proofs.EdgeTests.{same_edge_test}
use Rattle.m51_module.proofs.layout.Layout.edge.Goals as goal

pub returns-clause-test : goal.returns-clause-test
returns-clause-test c = same_edge_test c.leads.result c.args.self.now.edges c.args.from c.args.to c.leads.ensures
