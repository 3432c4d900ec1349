pub mod LookedAt
pub mod FilledAreas
pub mod UnusedAreas
