pub mod DeliveryUses
pub mod HeapUses
pub mod LoopUses
pub mod QueueUses
