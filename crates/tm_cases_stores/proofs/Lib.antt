pub mod StillBatches
