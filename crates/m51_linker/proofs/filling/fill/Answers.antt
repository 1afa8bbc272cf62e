use Rattle.m51_linker.specs.Image.{module_content}
use Rattle.m51_linker.specs.Memory.{held_at}
use Rattle.m51_linker.proofs.Steps.{module_written}
use Rattle.m51_linker.proofs.filling.fill.Goals as goal

pub loop-module-preserved : goal.loop-module-preserved
loop-module-preserved c =
    module_written (module_content c.args.joined.now c.args.placing.now) c.loop-module.«module»
    (held_at c.args.memory.now) (held_at c.loop-module.memory)
    (held_at c.fill_module.new.memory) c.loop-module.invariant c.fill_module.ensures
