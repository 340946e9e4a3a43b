-- The two tests, `Covering` and `Compatible`, by which a state that has the core of a move is chosen as the target.
use Rattle.mh_grammar.specs.ItemSets.{ItemSet}
use Rattle.mh_items_kernels.specs.KernelTypes.{Kernel}
use Rattle.mh_items_kernels.specs.Kernels.{Holds}
use Rattle.mh_pager.specs.WeakCompatibility.{HaveSameCore, Covers, AreCompatible}
use Rattle.mh_pager.specs.declared.finding.StateTest.{StateTest}
use Rattle.mh_pager.specs.declared.finding.StateTest.TheVariants as fits

-- A state with the items I passes the test for a move with the items J.
abbrev pub PassesTest : StateTest → ItemSet → ItemSet → Type 0
PassesTest fits.Covering I J = Covers I J
PassesTest fits.Compatible I J = AreCompatible I J

-- The state k has the core of the move and passes the test.
abbrev pub HasCoreAndPasses : StateTest → Kernel → Kernel → Type 0
HasCoreAndPasses fit move k = HaveSameCore (Holds k) (Holds move) × PassesTest fit (Holds k) (Holds move)
