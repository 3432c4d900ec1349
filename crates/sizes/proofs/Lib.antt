mod Estimates
