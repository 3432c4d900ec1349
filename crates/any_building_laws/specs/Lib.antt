pub mod BuilderCalls
