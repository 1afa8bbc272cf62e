use Rattle.m51_linker.specs.Broken.{module_broken}
use Rattle.m51_linker.specs.Image.{module_fields}
use Rattle.m51_linker.specs.Memory.{image_at}
use Rattle.m51_linker.proofs.Earliest.{least_modules}
use Rattle.m51_linker.proofs.Steps.{module_written}
use Rattle.m51_linker.proofs.patching.patch.Goals as goal

pub loop-module-preserved : goal.loop-module-preserved
loop-module-preserved c = record {
  put = module_written (module_fields c.args.joined.now c.args.placing.now) c.loop-module.«module»
      (image_at c.args.image.now) (image_at c.loop-module.image)
      (image_at c.patch_module-spot.new.image) c.loop-module.invariant.put c.patch_module-spot.ensures.put;
  broken = least_modules (module_broken c.args.joined.now c.args.placing.now) c.loop-module.«module»
      c.loop-module.broken c.patch_module-spot.result
      c.earlier_of-broken.result c.loop-module.invariant.broken c.patch_module-spot.ensures.broken
      c.earlier_of-broken.ensures;
}
