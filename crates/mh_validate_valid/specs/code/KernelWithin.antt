-- A kernel has the core of another kernel, and the looks of each item are among those of the other kernel's item.
use Rattle.std.specs.Prelude.{◌≡◌}
use Rattle.std.specs.List.{AllZip, Contains}
use Rattle.mh_grammar.specs.declared.types.Look.{Look}
use Rattle.mh_items_kernels.specs.KernelTypes.{KernelItem, Kernel}

pub record IsItemWithin (inner outer : KernelItem) : Type 0 where
  pub production : inner.production ≡ outer.production
  pub dot : inner.dot ≡ outer.dot
  pub looks : (look : Look) → Contains inner.looks look → Contains outer.looks look

abbrev pub IsKernelWithin : Kernel → Kernel → Type 0
IsKernelWithin inner outer = AllZip IsItemWithin inner.items outer.items
