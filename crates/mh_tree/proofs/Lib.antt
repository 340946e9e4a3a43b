mod DroppedTrees
