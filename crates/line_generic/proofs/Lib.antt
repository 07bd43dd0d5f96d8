mod Turning
mod Releasing
mod Calling
mod Accepted
mod Resting
mod Splitting
mod Finishing
