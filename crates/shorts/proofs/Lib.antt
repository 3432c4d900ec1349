mod Adding
mod Groups
