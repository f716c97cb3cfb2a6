mod Heads
mod Cuts
mod Fronts
mod Shapes
