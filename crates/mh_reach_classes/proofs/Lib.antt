mod TreatsAlike
mod ReductionSets
mod IsPartition
mod AllReductions
mod RowOfClasses
