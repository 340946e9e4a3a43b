pub mod FirstLoop
pub mod BoundsProveHalting
pub mod ReducedWithin
pub mod StopsWithoutDefault
pub mod HaltsOrLoops
